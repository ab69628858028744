-- `placing::placed_at` meets its contract: it follows the definition; the slots of a cell that was read are at most 64.
-- Assumes nothing.
use Prim.Native.Nat.{◌+◌}
use native.Mathlib.Omega.{arith}
use mathlib.Core.Path.{sym, ◌∙◌}
use Rattle.cell_reader.proofs.AcceptedLaws.{record_read}
use borrow.Author.Tests.{le-leb, lt-leb}
use Rattle.placing.specs.Cells.{placed_at}
use Rattle.placing.proofs.placed_at.Goals as goal

pub overflow_add-after : goal.overflow_add-after
overflow_add-after c =
    let read = record_read _ _ _ (sym c.record_in.ensures ∙ c.in_ok-cell.was) in
    omega (arith, read.low-width, c.slots_of.ensures)

pub overflow_cast-result : goal.overflow_cast-result
overflow_cast-result c =
    let read = record_read _ _ _ (sym c.record_in.ensures ∙ c.in_ok-cell.was) in
    omega (arith, read.low-width, c.slots_of.ensures)
