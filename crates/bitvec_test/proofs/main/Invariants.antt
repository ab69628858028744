-- `bitvec_test::main` ends: the loop's measure is the operations left; it asks nothing else. Assumes nothing.
use Prim.Native.Nat.{◌-◌}
use Rattle.bitvec_test.proofs.main.Given as goal

abbrev pub invariant-loop-op : goal.invariant-loop-op
invariant-loop-op l = Unit

abbrev pub decreases-loop-op : goal.decreases-loop-op
decreases-loop-op l = 17 - l.op
