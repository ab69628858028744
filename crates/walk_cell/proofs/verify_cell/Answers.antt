-- `walk_cell::verify_cell` meets its contract: no step at output width 0, else those of the cell, and of the new cell
-- where the next replacement is its. Assumes nothing.
use mathlib.Core.Path.{sym, ◌∙◌}
use Prim.Native.Nat.{◌+◌}
use Rattle.cell_reader.specs.Parse.{cell_at}
use Rattle.nets.specs.Reads.{past_in}
use Rattle.slots.specs.Tells.{width_in}
use Rattle.replaced_cells.specs.Cursor.{new_at}
use Rattle.walk_cell.proofs.Steps.{does_skip, does_both}
use Rattle.walk_cell.proofs.verify_cell.Goals as goal

pub returns-then-width-eq0 : goal.returns-then-width-eq0
returns-then-width-eq0 c =
    let args = c.args in
    let empty = sym c.width_at-width.ensures ∙ c.if-width-eq0.true in
    λ readable new narrow low.
    does_skip (past_in args.table.now) args.slot.0 (cell_at args.list.now args.at)
    (width_in args.table.now args.slot.0)
    (new_at args.list.now args.end args.rep args.slot.0) _ _ _ _ _ empty

pub returns-then-is_next : goal.returns-then-is_next
returns-then-is_next c =
    let args = c.args in
    let same = c.width_at-width.ensures in
    let next = sym c.is_next.ensures ∙ c.if-is_next.true in
    λ readable new narrow low.
    let old = c.add_at-old.ensures _ readable (rw same narrow) (rw same low) in
    let more = c.new_at.ensures (new next) (rw same narrow) (rw same low) in
    rw (next, ← same)
    (does_both (past_in args.table.now) args.slot.0 (cell_at args.list.now args.at) _
    (cell_at args.list.now (args.rep + 1)) c.if-width-eq0.false
    old more)
