-- Document 01, "Modules", order of work. The steps of one cell with its replacement.
use Rattle.std.specs.Prelude.{Bool, cond, List, [], ◌∷◌, ℕ, eqb}
use Rattle.std.proofs.Math.Option.{Option}
use Rattle.cell.specs.Cell.{Cell}
use Rattle.order.specs.Verify.{Step, add_cell, with_new}

-- The steps of a cell at a slot, of an output width, with the new cell that is given for it.
abbrev pub steps_at : (ℕ → Bool) → ℕ → ℕ → Cell → Option Cell → List Step
steps_at past slot width a new = cond (eqb width 0) [] (add_cell past slot width a ∷ with_new past slot width new)
