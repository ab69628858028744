-- Document 01, "Modules", builder. What an operation on y leaves.
use Rattle.std.specs.Prelude.{List, ℕ}
use Rattle.engine.specs.Call.{BinaryOp}
use Rattle.smt.specs.Prog.{Prog, bv, TritVec, tv, result_width}
use Rattle.builder.specs.Ran.{Writes}
use Rattle.builder.specs.declared.Counts.{Counts}
use Rattle.builder.specs.declared.BuiltTrits.{BuiltTrits}

-- An x of n bits, and a y as wide as the operation makes it.
abbrev pub MakesStrict : Prog TritVec → BinaryOp → ℕ → List ℕ → Counts → List ℕ → BuiltTrits → Type 0
MakesStrict m o n calls c calls' r =
    Writes m calls c calls' r.counts (tv (bv r.value.x.0 n) (bv r.value.y.0 (result_width o n)))
