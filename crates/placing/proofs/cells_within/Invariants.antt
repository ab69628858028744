-- `placing::cells_within` meets its contract. The invariant is `Going`: reading and storing on from here gives what it
-- gives from the start. The measure is the slots that are left. Assumes nothing.
use Prim.Native.Nat.{◌-◌}
use Rattle.placing.proofs.Laws.{Going}
use Rattle.placing.proofs.cells_within.Given as goal

abbrev pub invariant-loop-slot : goal.invariant-loop-slot
invariant-loop-slot l = Going l.list l.base l.total l.initial.table l.table
    l.at l.slot.0 l.count

abbrev pub decreases-loop-slot : goal.decreases-loop-slot
decreases-loop-slot l = l.total - l.slot.0
