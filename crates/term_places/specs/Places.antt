-- Document 01, "Words": a call record. The places of terms: a table has that of every `gap + 1`th term's record, from
-- which the record of a term after it is counted on.
use Rattle.std.specs.Prelude.{◌≡◌, cond, ◌&&◌, List, ℕ, ◌+◌, ◌*◌, ◌/◌, ◌%◌, ◌≤◌, ◌<◌, length, get_or, set, eqb, leb, ltb}
use Rattle.engine.specs.Encode.{makes_term, operation_at}
use Rattle.engine.specs.Structure.{term_place, place_of_term}

-- The place of the record that makes the term number `left` from a term's record on, that term's for 0.
abbrev pub place_on : List ℕ → ℕ → ℕ → ℕ
place_on w from left = cond (eqb left 0) from (term_place (length w) w from left)

-- The place of term k's record, counted on from the place that the table has before it.
abbrev pub place_near : List ℕ → ℕ → List ℕ → ℕ → ℕ
place_near places gap w k =
    cond (leb (length w) 4294967296 && ltb (k / (gap + 1)) (length places))
    (place_on w (get_or places (k / (gap + 1)) 0) (k % (gap + 1))) (place_of_term w k)

-- The gap with which a table of so many places reaches to the end of a list, in which every term has two words or more.
abbrev pub gap_of : ℕ → ℕ → ℕ
gap_of words places = cond (eqb places 0) 0 (words / places / 2 % 4294967296)

-- The place of every `gap + 1`th term's record goes into the table of places.
abbrev pub note_place : List ℕ → ℕ → List ℕ → ℕ → ℕ → List ℕ
note_place places gap w at terms =
    cond (makes_term (operation_at w at) && eqb (terms % (gap + 1)) 0)
    (set places (terms / (gap + 1)) (at % 4294967296)) places

-- The table has the places of every `gap + 1`th of so many terms, of a list whose places fit a word.
abbrev pub Spaced : List ℕ → List ℕ → ℕ → ℕ → Type 0
Spaced w places gap terms =
    length w ≤ 4294967296 → (i : ℕ) → i < length places → i * (gap + 1) < terms → get_or places i 0
    ≡ place_of_term w (i * (gap + 1))
