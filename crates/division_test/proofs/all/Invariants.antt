-- `division_test::all` ends: the loop's measure is the numbers left; it asks nothing else. Assumes nothing.
use Prim.Native.Nat.{◌-◌}
use Rattle.division_test.proofs.all.Given as goal

abbrev pub invariant-loop-s : goal.invariant-loop-s
invariant-loop-s l = Unit

abbrev pub decreases-loop-s : goal.decreases-loop-s
decreases-loop-s l = l.numbers - l.s
