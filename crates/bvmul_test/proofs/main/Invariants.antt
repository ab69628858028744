-- `bvmul_test::main` ends: the loop's measure is the widths left; it asks nothing else. Assumes nothing.
use Prim.Native.Nat.{◌-◌}
use Rattle.bvmul_test.proofs.main.Given as goal

abbrev pub invariant-loop-width : goal.invariant-loop-width
invariant-loop-width l = Unit

abbrev pub decreases-loop-width : goal.decreases-loop-width
decreases-loop-width l = 65 - l.width
