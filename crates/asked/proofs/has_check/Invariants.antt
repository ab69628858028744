-- `asked::has_check` meets its contract. The loop's invariant: the records before `head` have no check.
-- The measure is what is left of the list. Assumes nothing.
use Prim.Native.Nat.{◌-◌}
use Prim.Native.Nat.{ℕ}
use lib.ListN.{length}
use Rattle.asked.specs.Ending.{checks}
use Rattle.asked.proofs.Ending.{NoneOf}
use Rattle.asked.proofs.has_check.Given as goal

abbrev pub invariant-loop-head : goal.invariant-loop-head
invariant-loop-head l = (records : ℕ) × NoneOf checks l.calls records l.head

abbrev pub decreases-loop-head : goal.decreases-loop-head
decreases-loop-head l = length l.calls - l.head
