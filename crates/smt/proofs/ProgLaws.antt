-- Laws of the definitions of Prog.
use Prim.Native.Nat.{ℕ}
use Rattle.engine.specs.Call as c
use Rattle.smt.specs.Prog.{BitVec, Prog, build_compare}

abbrev pub build_bvult : BitVec → BitVec → Prog ℕ
build_bvult = build_compare c.bvult

abbrev pub build_bvslt : BitVec → BitVec → Prog ℕ
build_bvslt = build_compare c.bvslt
