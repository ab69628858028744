-- Document 01, "Words": a design list is #base #added #cellreps #netreps, then cells, cell replacements and net
-- replacements. Document 02, change 7: a design is verified in a mode.
use Rattle.std.specs.Prelude.{Bool, cond, ◌&&◌, List, [], ◌∷◌, ℕ, ◌+◌, ltb, leb}
use Rattle.logic.specs.Net.{Net}
use Rattle.cell.specs.Cell.{Cell, slots_of}
use Rattle.cell.specs.Cell as c
use Rattle.cell.specs.declared.Mode.{Mode}

-- A cell at its first slot; in a cell replacement, the new cell at the replaced slot.
pub record Placed : Type 0 where
  pub slot : ℕ
  pub cell : Cell

-- A net replacement.
pub record NetPair : Type 0 where
  pub from : Net
  pub to : Net

-- The mode is the caller's choice, not the list's; base and added count slots; the cells stand in slot order, those of
-- the base first.
pub record Design : Type 0 where
  pub mode : Mode
  pub base : ℕ
  pub added : ℕ
  pub cells : List Placed
  pub cell_reps : List Placed
  pub net_reps : List NetPair

abbrev pub total : Design → ℕ
total d = d.base + d.added

-- ---- The cell that a slot belongs to; a slot past the last cell counts as a Note's.
abbrev pub is_in : Placed → ℕ → Bool
is_in p i = leb p.slot i && ltb i (p.slot + slots_of p.cell)

unfoldable pub cell_in : List Placed → ℕ → Placed
cell_in [] i = record { slot = i; cell = c.note }
cell_in (p ∷ cells) i = cond (is_in p i) p (cell_in cells i)

abbrev pub cell_of : Design → ℕ → Placed
cell_of d = cell_in d.cells
