-- Document 01, "Reading nets". What the slot table says of a design to who reads its current reads: besides what the
-- order of work asks, the first slot of the cell at each slot.
use Rattle.std.specs.Prelude.{◌≡◌, List, ℕ, ◌<◌, ◌/◌, get_or, length}
use Rattle.cell.specs.Design.{Design, total, cell_of}
use Rattle.slots.specs.Tells.{Tells}

-- A table is the design's: it has a word for each slot.
pub record IsTable (d : Design) (table : List ℕ) : Type 0 where
  pub tells : Tells d table
  pub firsts : (i : ℕ) → i < total d → get_or table i 0 / 1024 ≡ (cell_of d i).slot
  pub size : length table ≡ total d
