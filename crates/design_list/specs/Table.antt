-- Document 01, "Words": a design list. What stands at each slot of an accepted list, as words in a lent slice (see
-- `mark_word`).
use Rattle.std.specs.Prelude.{ℕ, ◌+◌, ◌≡◌, cond, List, ◌++◌, length, drop, ltb, Result, Ok, Err}
use Rattle.std.proofs.lemmas.List.Edits.{sets}
use Rattle.logic.specs.declared.Fault.{Fault}
use Rattle.cell.specs.Design.{total}
use Rattle.fields.specs.Field.{fault}
use Rattle.placing.specs.Slots.{slot_words}
use Rattle.design_list.specs.Read.{Read, refused, accepted, answer, number_of, value_of, read_value}
use Rattle.design_list.specs.declared.Extent.{Extent}

-- The answer, by the length of the slice: a slice with a word for every slot is filled, a shorter one is fault 14 at
-- the room needed.
abbrev pub table_answer : Result Extent Fault → ℕ → Result Extent Fault
table_answer (Err e) room = Err e
table_answer (Ok x) room =
    cond (ltb room (x.base + x.added)) (Err (fault 14 (x.base + x.added))) (Ok x)

-- The slice afterwards: the words of all slots, and past them what stood there; else unchanged.
abbrev pub table_after : Read → List ℕ → List ℕ
table_after (refused e) out = out
table_after (accepted d replacements pairs) out =
    cond (ltb (length out) (total d)) out (slot_words d.base d.cells ++ drop (total d) out)

-- The number of what was read, into a slice of a length; its value is `read_value`, which is also the room needed.
abbrev pub room_number : Read → ℕ → ℕ
room_number (accepted d replacements pairs) room = cond (ltb room (total d)) 14 0
room_number (refused e) room = e.number

-- What filling a slice promises of its answer and of the slice.
pub record Tabled (r : Read) (before after : List ℕ) (a : Result Extent Fault) : Type 0 where
  pub same : a ≡ table_answer (answer r) (length before)
  pub number : number_of a ≡ room_number r (length before)
  pub value : value_of a ≡ read_value r
  pub slice : after ≡ table_after r before

-- What the reader's own table holds after an accepted list.
unfoldable pub Stored : Read → List ℕ → List ℕ → Type 0
Stored (refused e) t t' = Unit {0}
Stored (accepted d replacements pairs) t t' = t' ≡ sets t 0 (slot_words d.base d.cells)
