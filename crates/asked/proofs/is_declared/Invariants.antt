-- `asked::is_declared` meets its contract. The loop's invariant: no record before `head` declares the name.
-- The measure is what is left of the list. Assumes nothing.
use Prim.Native.Nat.{ℕ, ◌-◌}
use lib.ListN.{length}
use Rattle.asked.specs.Marks.{declares_name}
use Rattle.asked.proofs.Ending.{NoneOf}
use Rattle.asked.proofs.is_declared.Given as goal

abbrev pub invariant-loop-head : goal.invariant-loop-head
invariant-loop-head l = (records : ℕ)
    × NoneOf (declares_name l.letter l.index l.suffix) l.calls records l.head

abbrev pub decreases-loop-head : goal.decreases-loop-head
decreases-loop-head l = length l.calls - l.head
