-- `walk_cell::add_at` meets its contract: the cell is that of the part of the list after its head, and obliges nothing.
-- Assumes nothing.
use mathlib.Core.Path.{refl}
use Rattle.cell_reader.specs.Parse.{cell_at}
use Rattle.nets.specs.Reads.{past_in}
use Rattle.net_pairs.proofs.Does.{does_did}
use Rattle.walk_cell.proofs.Steps.{added_none}
use Rattle.walk_cell.proofs.Cells.{fields_in_lem}
use Rattle.walk_cell.proofs.add_at.Goals as goal

pub returns-then-at-list : goal.returns-then-at-list
returns-then-at-list c =
    let args = c.args in
    let same = fields_in_lem args.list.now args.at c.op_at-op.ensures in
    λ eqs readable narrow low.
    does_did (added_none (past_in args.table.now) args.slot.0 (cell_at args.list.now args.at)
    args.width) refl
    (rw same at (c.add_cell-counts.ensures (rw same readable.bounded) (rw same readable.shaped) narrow low))
