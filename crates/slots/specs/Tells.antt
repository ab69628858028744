-- Document 01, "Reading nets". What the words of the slot table say of a design: which slots read their past trit, how
-- wide each cell is, and what stands at each slot.
use Rattle.std.specs.Prelude.{◌≡◌, List, ℕ, ◌<◌, ◌/◌, ◌%◌, get_or}
use Rattle.cell.specs.Cell.{output_len}
use Rattle.cell.specs.Design.{Design, Placed, total, cell_of}
use Rattle.cell.specs.Role.{Role, void, given, dff, other, role}
use Rattle.cell.specs.Each.{Each}
use Rattle.working_out.specs.Reading.{reads_past}
use Rattle.nets.specs.Reads.{past_in}

-- The output width of a slot's cell, by the slot's word: what stands there + 4 × (0 base, 1 added) + 8 × output width +
-- 1,024 × first slot.
abbrev pub width_in : List ℕ → ℕ → ℕ
width_in table i = get_or table i 0 / 8 % 128

-- What stands at a slot, by its word: 0 a Void, 1 a Dff, 2 any other cell.
abbrev pub standing_in : List ℕ → ℕ → ℕ
standing_in table i = get_or table i 0 % 4

-- The same number of a role; Input and IoBuf count as other cells.
abbrev pub standing_of : Role → ℕ
standing_of void = 0
standing_of given = 2
standing_of dff = 1
standing_of other = 2

-- The table tells of a design what the order of work asks of it.
pub record Tells (d : Design) (table : List ℕ) : Type 0 where
  pub past : (i : ℕ) → past_in table i ≡ reads_past d i
  pub widths : Each (λ (p : Placed). width_in table p.slot ≡ output_len p.cell) d.cells
  pub roles : (i : ℕ) → i < total d → standing_in table i ≡ standing_of (role (cell_of d i).cell)
