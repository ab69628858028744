-- `bitvec_test::cases` stays inside its tables and ends: the loop's measure is the cases left. Assumes nothing.
use Prim.Native.Nat.{◌-◌}
use Rattle.bitvec_test.proofs.cases.Given as goal

abbrev pub invariant-loop-k : goal.invariant-loop-k
invariant-loop-k l = Unit

abbrev pub decreases-loop-k : goal.decreases-loop-k
decreases-loop-k l = 25 - l.k
