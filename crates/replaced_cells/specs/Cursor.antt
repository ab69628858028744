-- Document 01, "Modules", order of work. The cell replacements go along with the cells: the place of the next one's
-- #slot, and what it is to the cell at a slot.
use Rattle.std.specs.Prelude.{Bool, false, cond, List, ℕ, ◌+◌, ◌≤◌, ◌<◌, eqb, ltb, length}
use Rattle.std.proofs.Math.Option.{Option, none, some}
use Rattle.cell.specs.Cell.{Cell}
use Rattle.right.specs.Bounds.{Bounded}
use Rattle.right.specs.Shape.{Shaped}
use Rattle.cell_reader.specs.Parse.{number_in, cell_at, end_at}

-- Whether the replacement at a place, up to the place `end` of the first net replacement, is that of a slot.
abbrev pub is_next : List ℕ → ℕ → ℕ → ℕ → Bool
is_next w end rep slot = cond (ltb rep end) (eqb (number_in w rep) slot) false

-- Its new cell.
abbrev pub new_at : List ℕ → ℕ → ℕ → ℕ → Option Cell
new_at w end rep slot = cond (is_next w end rep slot) (some (cell_at w (rep + 1))) none

-- The place of the next replacement, after the cell at a slot: a cell of output width 0 is skipped with its
-- replacement.
abbrev pub rep_after : List ℕ → ℕ → ℕ → ℕ → ℕ
rep_after w end rep slot = cond (is_next w end rep slot) (end_at w (rep + 1)) rep

-- What is known of a record in the list: it ends within the list, and the cell that it stands for has its bounds and
-- its shape.
pub record Readable (w : List ℕ) (at : ℕ) : Type 0 where
  pub inside : at < length w
  pub ends : end_at w at ≤ length w
  pub bounded : Bounded (cell_at w at)
  pub shaped : Shaped (cell_at w at)
