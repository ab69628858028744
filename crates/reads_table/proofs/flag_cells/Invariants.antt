-- `reads_table::flag_cells` meets its contract: along the cells (`FlagsLeft`), each turn flags one cell if it is
-- asserted, and after the last slot none is left. Assumes nothing.
use mathlib.Core.Path.{◌≡◌}
use Prim.Native.Nat.{ℕ, ◌-◌}
use lib.ListN.{length}
use Rattle.cell.specs.declared.Mode.{Mode}
use Rattle.cell.specs.Design.{Design}
use Rattle.design_list.specs.Read.{read, accepted}
use Rattle.reads_table.specs.Table.{IsTable}
use Rattle.reads_table.proofs.Flags.{FlagsLeft}
use Rattle.reads_table.proofs.flag_cells.Given as goal

abbrev pub invariant-loop-at : goal.invariant-loop-at
invariant-loop-at l =
    (mode : Mode) (d : Design) (replacements pairs : ℕ) → read mode l.list ≡ accepted d replacements pairs
    → IsTable d l.table → FlagsLeft d l.list l.table replacements l.walk.slot l.walk.at l.initial.flags l.flags

abbrev pub decreases-loop-at : goal.decreases-loop-at
decreases-loop-at l = length l.table - l.walk.slot
