-- Document 01, "Examples": the script writer. The line of a record: what the code writes at a place, after some calls.
use Rattle.std.specs.Prelude.{◌≡◌, true, cond, List, ℕ, ltb, length, get_or}
use Rattle.engine.specs.Call.{Call}
use Rattle.engine.specs.Sorts.{Sort}
use Rattle.engine.specs.Encode.{operation_at, count_at, bare, argument_at, call_at}
use Rattle.engine.specs.WellFormed.{count_fits}
use Rattle.call_list.specs.Made.{made, sorts_of, sort_of_call}
use Rattle.call_list.specs.declared.Cursor.{Cursor}
use Rattle.call_list.specs.Literal.{payloads, LiteralFits}
use Rattle.term_table.specs.Near.{sort_near, record_by}
use Rattle.pieces.specs.Text.{reference}
use Rattle.pieces.specs.Shape.{line_of, body_of, name_of}
use Rattle.pieces.specs.Arguments.{reference_by}
use Rattle.pieces.specs.declared.Line.{Line}
use Rattle.pieces.specs.declared.Line.TheVariants.{Define}
use Rattle.pieces.specs.declared.Body.{Body}
use Rattle.pieces.specs.declared.Body.TheVariants.{Literal}
use Rattle.lines.specs.Shape.{body_by, define_line, declare_line, assert_line}

-- What the line of the record at a place does, and how its term is written.
abbrev pub line_kind : List ℕ → ℕ → Line
line_kind w head = line_of (operation_at w head)

abbrev pub body_kind : List ℕ → ℕ → Body
body_kind w head = body_of (operation_at w head)

-- The text of the term that the record at a place makes, after so many terms.
abbrev pub body_at : List ℕ → ℕ → List ℕ → ℕ → ℕ → List ℕ
body_at places gap w terms head = body_by (body_kind w head) (reference_by places gap w terms) (operation_at w head)
    (count_at w head) (payloads w head)

-- The sort of the term that the record at a place makes: from the table of the first terms, past it by the record.
abbrev pub sort_by : List ℕ → List ℕ → List ℕ → ℕ → List ℕ → ℕ → ℕ → Sort
sort_by sorts recent places gap w terms head =
    cond (ltb terms (length sorts)) (get_or sorts terms 0) (record_by (sort_near sorts recent places gap w terms) w head)

-- What the writer needs of a record: a literal's numbers are of 16 bits.
abbrev pub Ready : List ℕ → ℕ → Type 0
Ready w head = body_kind w head ≡ Literal → LiteralFits w head

-- The line of the record at a place, after so many terms.
abbrev pub define_at : List ℕ → ℕ → List ℕ → ℕ → ℕ → ℕ → List ℕ
define_at places gap w terms head sort = define_line terms sort (body_at places gap w terms head)

abbrev pub declare_at : List ℕ → ℕ → List ℕ
declare_at w head = declare_line (name_of (payloads w head)) (payloads w head 3)

abbrev pub assert_at : List ℕ → ℕ → List ℕ → ℕ → ℕ → List ℕ
assert_at places gap w terms head = assert_line (reference_by places gap w terms (payloads w head 0))

-- What the writer needs at a cursor's place, after some calls: the record has its operation's arguments, and the tables
-- give the names of the calls' terms and the record's sort.
pub record Writable (gap : ℕ) (w places sorts recent : List ℕ) (before : List Call) (seen : Cursor) : Type 0 where
  pub counted : count_fits (operation_at w seen.at) (count_at w seen.at) (argument_at bare w seen.at 0) ≡ true
  pub many : seen.terms ≡ length (made before)
  pub sort : line_kind w seen.at ≡ Define
      → sort_by sorts recent places gap w seen.terms seen.at ≡ sort_of_call (sorts_of before) (call_at w seen.at)
  pub references : reference_by places gap w seen.terms ≡ reference before
