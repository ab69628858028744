-- `division_test::row_of_all` ends: the loop's measure is the numbers left; it asks nothing else. Assumes nothing.
use Prim.Native.Nat.{◌-◌}
use Rattle.division_test.proofs.row_of_all.Given as goal

abbrev pub invariant-loop-t : goal.invariant-loop-t
invariant-loop-t l = Unit

abbrev pub decreases-loop-t : goal.decreases-loop-t
decreases-loop-t l = l.numbers - l.t
