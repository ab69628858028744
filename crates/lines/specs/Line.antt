-- Document 01, "Examples": the line of a call, as its example has it. It depends on the calls before it: how many terms
-- they make, of which sorts, and under which names.
use Rattle.std.specs.Prelude.{List, [], ◌∷◌, ◌++◌, map, ℕ, length}
use Rattle.engine.specs.Call.{Term, Call}
use Rattle.engine.specs.Call as c
use Rattle.engine.specs.Encode as o
use Rattle.engine.specs.Sorts.{sort_of}
use Rattle.call_list.specs.Made.{made, sorts_of}
use Rattle.text.specs.Bytes.{ascii}
use Rattle.text.specs.Names.{name_text}
use Rattle.syntax.specs.Text.{operation_text, sort_text, literal_text, bool_text, extract_text}
use Rattle.pieces.specs.Text.{numbered, reference, applied, conjunction}

-- A term, of the texts of its arguments.
abbrev pub term_text : (ℕ → List ℕ) → Term → List ℕ
term_text r (c.bool_lit b) = bool_text b
term_text r (c.bool_ite i a b) = applied (operation_text (o.term o.bool_ite)) (r i ∷ r a ∷ r b ∷ [])
term_text r (c.not a) = applied (operation_text (o.term o.not)) (r a ∷ [])
term_text r (c.and args) = conjunction (map r args)
term_text r (c.lit s) = literal_text s
term_text r (c.equal a b) = applied (operation_text (o.term o.equal)) (r a ∷ r b ∷ [])
term_text r (c.ite i a b) = applied (operation_text (o.term o.ite)) (r i ∷ r a ∷ r b ∷ [])
term_text r (c.concat a b) = applied (operation_text (o.term o.concat)) (r a ∷ r b ∷ [])
term_text r (c.extract m l a) = applied (extract_text m l) (r a ∷ [])
term_text r (c.bvnot a) = applied (operation_text (o.term o.bvnot)) (r a ∷ [])
term_text r (c.op2 op a b) = applied (operation_text (o.term (o.op2 op))) (r a ∷ r b ∷ [])
term_text r (c.compare op a b) = applied (operation_text (o.term (o.compare op))) (r a ∷ r b ∷ [])

-- The line of a call after others; it ends in a line feed.
abbrev pub line : List Call → Call → List ℕ
line before (c.term t) =
    ascii "(define-fun " ++ numbered (length (made before)) ++ ascii " () " ++ sort_text (sort_of (sorts_of before) t)
    ++ ascii " "
    ++ term_text (reference before) t ++ ascii ")\n"
line before (c.declare name w) = ascii "(declare-const " ++ name_text name ++ ascii " " ++ sort_text w ++ ascii ")\n"
line before (c.assert k) = ascii "(assert " ++ reference before k ++ ascii ")\n"
line before c.check = ascii "(check-sat)\n"
