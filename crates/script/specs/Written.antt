-- Document 01, the writer: 19, then 2, then 15 at the room needed; on refusal nothing is written, on success nothing
-- past the text.
use Rattle.std.specs.Prelude.{◌≡◌, cond, List, ◌++◌, ℕ, ltb, length, drop, Option, Some, None, Result, Ok, Err}
use Rattle.std.proofs.Math.Option as found
use Rattle.engine.specs.Encode.{decode}
use Rattle.engine.specs.WellFormed.{malformed_at}
use Rattle.text.specs.Names.{asked_names}
use Rattle.engine.specs.Emit.{counted}
use Rattle.logic.specs.declared.Fault.{Fault}
use Rattle.script.specs.Text.{script}
use Rattle.asked.specs.Marks.{bad_mark}

-- The script of a list of words and its recorded marks.
abbrev pub script_of : List ℕ → List ℕ → List ℕ
script_of w marks = script (decode w) (asked_names marks)

abbrev pub refuse : ℕ → ℕ → Result ℕ Fault
refuse number place = Err (record { number = number; place = place })

-- A text of some length into some room; the room needed is told as a machine word.
abbrev pub room_for : ℕ → ℕ → Result ℕ Fault
room_for needed room = cond (ltb room needed) (refuse 15 (counted needed)) (Ok needed)

abbrev pub on_fine : Option ℕ → Result ℕ Fault → Result ℕ Fault
on_fine None r = r
on_fine (Some slot) r = refuse 2 slot

abbrev pub on_formed : found.Option ℕ → Result ℕ Fault → Result ℕ Fault
on_formed found.none r = r
on_formed (found.some place) r = refuse 19 place

-- What the writer answers: the number of bytes, or the first fault.
unfoldable pub marked : List ℕ → List ℕ → ℕ → Result ℕ Fault
marked w marks room = on_fine (bad_mark (decode w) 0 marks) (room_for (length (script_of w marks)) room)

unfoldable pub written : List ℕ → List ℕ → ℕ → Result ℕ Fault
written w marks room = on_formed (malformed_at w) (marked w marks room)

-- The text after it.
abbrev pub text_after : Result ℕ Fault → List ℕ → List ℕ → List ℕ
text_after (Ok n) text before = text ++ drop (length text) before
text_after (Err e) text before = before

pub record Scripted (w marks before after : List ℕ) (answer expected : Result ℕ Fault) : Type 0 where
  pub answers : answer ≡ expected
  pub writes : after ≡ text_after answer (script_of w marks) before
