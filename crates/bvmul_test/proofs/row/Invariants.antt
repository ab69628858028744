-- `bvmul_test::row` ends: the loop's measure is the operands left; it asks nothing else. Assumes nothing.
use Prim.Native.Nat.{◌-◌}
use Rattle.bvmul_test.proofs.row.Given as goal

abbrev pub invariant-loop-k : goal.invariant-loop-k
invariant-loop-k l = Unit

abbrev pub decreases-loop-k : goal.decreases-loop-k
decreases-loop-k l = 8 - l.k
