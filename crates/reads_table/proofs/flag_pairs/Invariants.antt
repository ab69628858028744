-- `reads_table::flag_pairs` meets its contract: along the net replacements (`VoidsLeft`), each turn flags the Void that
-- one replaces, if it is one's, and at the last word none is left. Assumes nothing.
use mathlib.Core.Path.{◌≡◌}
use Prim.Native.Nat.{ℕ, ◌-◌}
use lib.ListN.{length}
use Rattle.cell.specs.declared.Mode.{Mode}
use Rattle.cell.specs.Design.{Design}
use Rattle.design_list.specs.Read.{read, accepted}
use Rattle.reads_table.specs.Table.{IsTable}
use Rattle.reads_table.proofs.Flags.{VoidsLeft}
use Rattle.reads_table.proofs.flag_pairs.Given as goal

abbrev pub invariant-loop-at : goal.invariant-loop-at
invariant-loop-at l =
    (mode : Mode) (d : Design) (replacements : ℕ) → read mode l.list ≡ accepted d replacements l.pairs
    → IsTable d l.table → VoidsLeft d l.list l.at l.initial.flags l.flags

abbrev pub decreases-loop-at : goal.decreases-loop-at
decreases-loop-at l = length l.list - l.at
