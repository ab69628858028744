-- Document 01: what the order of work answers for a list of words and the room lent for its calls and its recorded
-- marks, and what it leaves in the two slices. Every count is a count in the calls themselves. Document 02, change 7:
-- the caller chooses a mode, by its number.
use Rattle.std.specs.Prelude.{◌≡◌, cond, List, [], ◌∷◌, ◌++◌, ℕ, zero, suc, ◌+◌, ltb, length, drop, Result, Ok, Err}
use Rattle.std.specs.Prelude.{Option, Some, None}
use Rattle.builder.specs.declared.Counts.{Counts}
use Rattle.requirement.specs.declared.Verified.{Verified}
use Rattle.requirement.specs.declared.Verified.TheVariants.{NothingAsked, Asked}
use Rattle.logic.specs.declared.Fault.{Fault}
use Rattle.cell.specs.declared.Mode.{Mode}
use Rattle.cell.specs.Design.{Design, total}
use Rattle.cell.specs.Mode.{mode_of}
use Rattle.engine.specs.Call.{Letter, Suffix, Call}
use Rattle.engine.specs.Call as c
use Rattle.engine.specs.Meaning.{terms}
use Rattle.engine.specs.Encode.{encode, decode}
use Rattle.design_list.specs.Read.{Read, refused, accepted, read}
use Rattle.working_out.specs.Loop.{Loop}
use Rattle.order.specs.Verify.{built, verify}
use Rattle.requirement.specs.Requirement3.{Requirement3}

-- ---- counts

-- A temporary is one name without a suffix, or two with x and y: it is counted at its first.
abbrev pub is_temporary : Letter → Suffix → ℕ
is_temporary c.n s = 0
is_temporary c.p s = 0
is_temporary c.t c.none = 1
is_temporary c.t c.x = 1
is_temporary c.t c.y = 0

unfoldable pub temporaries : List Call → ℕ
temporaries [] = 0
temporaries (c.term t ∷ cs) = temporaries cs
temporaries (c.declare name w ∷ cs) = is_temporary name.letter name.suffix + temporaries cs
temporaries (c.assert k ∷ cs) = temporaries cs
temporaries (c.check ∷ cs) = temporaries cs

abbrev pub counted : List Call → Counts
counted cs =
    record { terms = Rattle.engine.specs.Meaning.terms cs; temporaries = temporaries cs; words = length (encode cs) }

-- ---- the list in the mode: a mode other than 0 or 1 is 23 at 0, before the list is looked at

abbrev pub read_by : Option Mode → List ℕ → Read
read_by None w = refused (record { number = 23; place = 0 })
read_by (Some mode) w = read mode w

unfoldable pub read_in : ℕ → List ℕ → Read
read_in mode w = read_by (mode_of mode) w

-- ---- the answer

-- With no obligation nothing is asked.
abbrev pub told : List ℕ → Counts → Verified
told [] n = NothingAsked n
told (o ∷ more) n = Asked n

-- The same, by the number of obligations.
abbrev pub told_by : ℕ → Counts → Verified
told_by zero n = NothingAsked n
told_by (suc k) n = Asked n

-- What an accepted list is answered where there is room.
abbrev pub of_design : Design → Verified
of_design d = told (built d).res (counted (verify d))

-- Whether so many call words and slots have room: the call slice before the recorded one, each at the room needed.
unfoldable pub room_for : ℕ → ℕ → ℕ → ℕ → Result (Unit {0}) ℕ
room_for words room slots recorded =
    cond (ltb room words) (Err words) (cond (ltb recorded slots) (Err slots) (Ok tt))

-- Too little room is 14.
abbrev pub in_room : Result (Unit {0}) ℕ → Verified → Result Verified Fault
in_room (Ok enough) answer = Ok answer
in_room (Err place) answer = Err (record { number = 14; place = place })

abbrev pub roomed : Design → ℕ → ℕ → Result Verified Fault
roomed d room recorded = in_room (room_for (length (encode (verify d))) room (total d) recorded) (of_design d)

abbrev pub of_read : Read → ℕ → ℕ → Result Verified Fault
of_read (refused e) room recorded = Err e
of_read (accepted d reps pairs) room recorded = roomed d room recorded

-- The answer for a list in a mode, with the room of the two slices.
unfoldable pub verified : ℕ → List ℕ → ℕ → ℕ → Result Verified Fault
verified mode w room recorded = of_read (read_in mode w) room recorded

abbrev pub of_read_unroomed : Read → Result Verified Fault
of_read_unroomed (refused e) = Err e
of_read_unroomed (accepted d reps pairs) = Ok (of_design d)

-- The same, with any room that suffices.
unfoldable pub unroomed : ℕ → List ℕ → Result Verified Fault
unroomed mode w = of_read_unroomed (read_in mode w)

-- ---- what the slices hold after it: a refusal changes nothing, success nothing past what it writes

abbrev pub over : List ℕ → List ℕ → List ℕ
over new old = new ++ drop (length new) old

abbrev pub on_success : Result Verified Fault → List ℕ → List ℕ → List ℕ
on_success (Err e) new old = old
on_success (Ok (NothingAsked n)) new old = over new old
on_success (Ok (Asked n)) new old = over new old

abbrev pub written_calls : Read → List ℕ
written_calls (refused e) = []
written_calls (accepted d reps pairs) = encode (verify d)

abbrev pub written_marks : Read → List ℕ
written_marks (refused e) = []
written_marks (accepted d reps pairs) = (built d).st.marks

-- The call words and the marks that a list has in a mode.
unfoldable pub call_words : ℕ → List ℕ → List ℕ
call_words mode w = written_calls (read_in mode w)

unfoldable pub marks : ℕ → List ℕ → List ℕ
marks mode w = written_marks (read_in mode w)

unfoldable pub calls_after : ℕ → List ℕ → List ℕ → List ℕ → List ℕ
calls_after mode w calls recorded =
    on_success (verified mode w (length calls) (length recorded)) (call_words mode w) calls

unfoldable pub recorded_after : ℕ → List ℕ → List ℕ → List ℕ → List ℕ
recorded_after mode w calls recorded =
    on_success (verified mode w (length calls) (length recorded)) (marks mode w) recorded

-- ---- document 01's numbers and values of each case: a refusal's number and place; otherwise 0 and the words

abbrev pub number_of : Result Verified Fault → ℕ
number_of (Err e) = e.number
number_of (Ok answer) = 0

abbrev pub value_of : Result Verified Fault → ℕ
value_of (Err e) = e.place
value_of (Ok (NothingAsked n)) = n.words
value_of (Ok (Asked n)) = n.words

-- ---- requirement 3, of a list of words in a mode: what every accepted list without a current loop must have, said of
-- its call words

abbrev pub Required : ℕ → List ℕ → Type 0
Required mode w =
    (d : Design) (reps pairs : ℕ) → read_in mode w ≡ accepted d reps pairs → (Loop d → ⊥) →
    Requirement3 d (decode (call_words mode w))
