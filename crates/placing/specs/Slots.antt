-- Document 01, "Words": a cell takes max(1, output width) slots, one cell after another. What stands at each slot, and
-- the words that say so.
use Rattle.std.specs.Prelude.{ℕ, ◌+◌, ◌*◌, List, [], ◌∷◌, ◌++◌, map, Bool, false, cond, get_or, replicate, ltb}
use Rattle.cell.specs.Cell.{note, output_len, slots_of, standing, stands_void}
use Rattle.cell.specs.declared.Standing.{Standing}
use Rattle.cell.specs.declared.Standing.TheVariants as S
use Rattle.cell.specs.Design.{Placed}
use Rattle.items.specs.Items.{AtSlot}

-- For each slot in order the cell that takes it, with that cell's first slot.
unfoldable pub covering : List Placed → List Placed
covering [] = []
covering (c ∷ cs) = replicate (slots_of c.cell) c ++ covering cs

abbrev pub nowhere : Placed
nowhere = record { slot = 0; cell = note }

-- The cell that takes a slot.
abbrev pub takes : List Placed → ℕ → Placed
takes cells slot = get_or (covering cells) slot nowhere

-- What stands at a slot, as fault 12 asks.
abbrev pub at_slot : List Placed → ℕ → AtSlot
at_slot cells slot = record {
  first = (takes cells slot).slot;
  void = stands_void (standing (takes cells slot).cell);
  width = output_len (takes cells slot).cell;
}

-- Whether a slot is that of a Void of the base.
unfoldable pub is_void : List Placed → ℕ → ℕ → Bool
is_void cells base slot = cond (ltb slot base) (stands_void (standing (takes cells slot).cell)) false

-- What stands at a slot, as a number.
abbrev pub standing_number : Standing → ℕ
standing_number S.Void = 0
standing_number S.Dff = 1
standing_number S.Other = 2

-- The word for a slot: what stands there + 4 × (0 base, 1 added) + 8 × output width + 1,024 × first slot.
abbrev pub mark_word : ℕ → Standing → ℕ → ℕ → ℕ
mark_word base stands width first =
    standing_number stands + 4 * cond (ltb first base) 0 1 + 8 * width + 1024 * first

abbrev pub mark_of : ℕ → Placed → ℕ
mark_of base c = mark_word base (standing c.cell) (output_len c.cell) c.slot

-- The words of all slots.
abbrev pub slot_words : ℕ → List Placed → List ℕ
slot_words base cells = map (mark_of base) (covering cells)
