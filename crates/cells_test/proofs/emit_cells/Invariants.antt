-- `cells_test::emit_cells` is safe: the slices keep their lengths. Assumes nothing.
use mathlib.Core.Path.{◌≡◌}
use lib.ListN.{length}
use Rattle.cells_test.proofs.emit_cells.Given as goal

abbrev pub invariant-loop : goal.invariant-loop
invariant-loop l =
    (length l.calls ≡ length l.initial.calls) × (length l.names ≡ length l.initial.names) × (length l.marks ≡ length l.initial.marks)
