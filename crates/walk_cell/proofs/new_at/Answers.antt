-- `walk_cell::new_at` meets its contract: the cell is that of the part of the list after its head; one obligation, its
-- term pushed. Assumes nothing.
use mathlib.Core.Path.{refl}
use Rattle.net_pairs.specs.Does.{obliged_in}
use Rattle.net_pairs.proofs.Does.{does_pushed}
use Rattle.walk_cell.proofs.Cells.{fields_in_lem}
use Rattle.walk_cell.proofs.new_at.Goals as goal

pub returns-then-at-list : goal.returns-then-at-list
unfolding obliged_in
returns-then-at-list c =
    let args = c.args in
    let same = fields_in_lem args.list.now args.at c.op_at-op.ensures in
    λ readable narrow low.
    does_pushed refl
    (rw same at (c.new_cell-eq.ensures (rw same readable.bounded) (rw same readable.shaped) narrow low))
    c.push.ensures
