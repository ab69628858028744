-- Document 01, "Words": a design list. What stands at a slot, by the words of the slots that the reader keeps.
use Rattle.std.specs.Prelude.{ℕ, ◌/◌, ◌%◌, List, get_or, eqb}
use Rattle.items.specs.Items.{AtSlot}

abbrev pub at_slot_in : List ℕ → ℕ → AtSlot
at_slot_in table slot = record {
  first = get_or table slot 0 / 1024;
  void = eqb (get_or table slot 0 % 4) 0;
  width = get_or table slot 0 / 8 % 128;
}
