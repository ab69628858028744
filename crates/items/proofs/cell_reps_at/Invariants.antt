-- Reading on from here answers what reading from the start does.
use mathlib.Core.Path.{◌≡◌}
use Prim.Native.Nat.{◌-◌}
use Rattle.items.specs.Items.{replaces, cell_reps_from}
use Rattle.items.specs.Marks.{at_slot_in}
use Rattle.items.proofs.cell_reps_at.Given as goal

abbrev pub invariant-loop : goal.invariant-loop
invariant-loop l =
    (cell_reps_from l.list l.total (replaces (at_slot_in l.table) l.base) l.k 0 l.start).scan
    ≡ (cell_reps_from l.list l.total (replaces (at_slot_in l.table) l.base) (l.k - l.counter) l.least.0 l.at).scan
