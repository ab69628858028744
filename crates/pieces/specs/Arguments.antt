-- Document 01, "Examples": the script writer. What the writer writes of a record's arguments, with a table of the
-- places of every `gap + 1`th term.
use Rattle.std.specs.Prelude.{cond, List, [], ◌∷◌, ◌++◌, ℕ, ltb, get_or}
use Rattle.logic.specs.Table.{tab}
use Rattle.engine.specs.Call as c
use Rattle.engine.specs.Encode.{suffixes, call_at}
use Rattle.call_list.specs.Literal.{payloads}
use Rattle.term_places.specs.Places.{place_near}
use Rattle.syntax.specs.Text.{extract_text}
use Rattle.text.specs.Bytes.{decimal}
use Rattle.text.specs.Names.{suffix_text}
use Rattle.pieces.specs.declared.Spelling.{Spelling}
use Rattle.pieces.specs.Text.{numbered, spelled_as, applied}

-- A letter, a number in decimal and a suffix, by its number.
abbrev pub spelled : Spelling → List ℕ
spelled word = (word.letter ∷ []) ++ decimal word.index ++ suffix_text (get_or suffixes word.suffix c.none)

-- How term k is written, of so many terms so far, by the record that the table and the records give for it.
abbrev pub reference_by : List ℕ → ℕ → List ℕ → ℕ → ℕ → List ℕ
reference_by places gap w terms k = cond (ltb k terms) (spelled_as k (call_at w (place_near places gap w k))) (numbered k)

-- The arguments of a record as the script has them.
abbrev pub argument_texts : List ℕ → ℕ → List ℕ → ℕ → ℕ → ℕ → List (List ℕ)
argument_texts places gap w terms head n = tab n (λ i. reference_by places gap w terms (payloads w head i))

-- What a record takes out of a vector.
abbrev pub extraction_text : List ℕ → ℕ → List ℕ → ℕ → ℕ → List ℕ
extraction_text places gap w terms head =
    applied (extract_text (payloads w head 0) (payloads w head 1))
    (reference_by places gap w terms (payloads w head 2) ∷ [])
