-- `walk::verify_cells` meets its contract: along the cells (`Along`), each turn does the steps of one cell, and after
-- the last slot none is left. Assumes nothing.
use mathlib.Core.Path.{◌≡◌}
use Prim.Native.Nat.{◌-◌}
use lib.ListN.{length}
use Rattle.cell.specs.declared.Mode.{Mode}
use Rattle.cell.specs.Design.{Design, total}
use Rattle.design_list.specs.Read.{read, accepted}
use Rattle.slots.specs.Tells.{Tells}
use Rattle.walk.proofs.Along.{Along}
use Rattle.walk.proofs.verify_cells.Given as goal

abbrev pub invariant-loop-index : goal.invariant-loop-index
invariant-loop-index l =
    (length l.calls ≡ length l.initial.calls) × (length l.names ≡ length l.initial.names) × (length l.marks ≡ length l.initial.marks)
    × (length l.eqs ≡ length l.initial.eqs)
    × ((mode : Mode) (d : Design) → read mode l.list ≡ accepted d l.replacements l.end → Tells d l.table →
    length l.table ≡ total d
    → Along d l.list l.table l.replacements l.end l.index l.at l.rep l.initial.calls l.initial.names l.initial.marks l.initial.eqs l.initial.s l.calls l.names l.marks l.eqs l.s)

abbrev pub decreases-loop-index : goal.decreases-loop-index
decreases-loop-index l =
    length l.table - l.index
