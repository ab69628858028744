-- Document 01, "Examples" and faults 2 and 15: a solver's reply to the recorded marks, and the table that it gives.
use Rattle.std.specs.Prelude.{◌≡◌, Bool, cond, List, [], ◌∷◌, ◌++◌, ℕ, suc, ltb, eqb, length, drop}
use Rattle.std.specs.Prelude.{Option, Some, None, Result, Ok, Err}
use Rattle.logic.specs.declared.Fault.{Fault}
use Rattle.logic.specs.Trit.{shows, readback_number}
use Rattle.text.specs.Names.{asked_names}
use Rattle.tokens.specs.Token.{tokens_of}
use Rattle.reply.specs.Reply.{Reply, unsat, sat, bad, refuse, reply}
use Rattle.answer.specs.declared.Answer.{Answer}
use Rattle.answer.specs.declared.Answer.TheVariants.{Unsat, Sat}

-- The first mark above 2; the first mark is the slot's.
unfoldable pub bad_mark : ℕ → List ℕ → Option ℕ
bad_mark slot [] = None
bad_mark slot (mark ∷ marks) = cond (ltb 2 mark) (Some slot) (bad_mark (suc slot) marks)

abbrev pub on_fine : Option ℕ → Reply → Reply
on_fine None r = r
on_fine (Some slot) r = refuse 2 slot

-- The whole reading: marks first (2), then the table's room (15), then the text.
unfoldable pub reply_to : List ℕ → List ℕ → ℕ → Reply
reply_to text marks room =
    on_fine (bad_mark 0 marks)
    (cond (ltb room (length marks)) (refuse 15 (length marks)) (reply (asked_names marks) (tokens_of text)))

-- The first two bits' trit, and the entries of the bits after them.
abbrev pub shown_first : List Bool → (List Bool → List ℕ) → List ℕ
shown_first [] rest = []
shown_first (x ∷ []) rest = []
shown_first (x ∷ y ∷ bits) rest = readback_number (Some (shows x y)) ∷ rest bits

-- An entry for each slot: the trit that its bits show, or 3 where nothing was recorded.
unfoldable pub table : List ℕ → List Bool → List ℕ
table [] bits = []
table (mark ∷ marks) bits =
    cond (eqb mark 1) (shown_first bits (table marks))
    (cond (eqb mark 2) (shown_first bits (table marks)) (readback_number None ∷ table marks bits))

-- The table after the reading: written after sat alone, and what comes after its entries stays.
abbrev pub table_after : Reply → List ℕ → List ℕ → List ℕ
table_after unsat marks before = before
table_after (sat bits) marks before = table marks bits ++ drop (length marks) before
table_after (bad e) marks before = before

abbrev pub answer_of : Reply → Result Answer Fault
answer_of unsat = Ok Unsat
answer_of (sat bits) = Ok Sat
answer_of (bad e) = Err e

-- What reading a text against recorded marks into a table does.
pub record Read (text marks before after : List ℕ) (answer : Result Answer Fault) : Type 0 where
  pub answers : answer ≡ answer_of (reply_to text marks (length before))
  pub writes : after ≡ table_after (reply_to text marks (length before)) marks before
