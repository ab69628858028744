-- Document 01, "Words": a call record. The table of names: where a name stands in it, and what it answers.
use Rattle.std.specs.Prelude.{Bool, cond, ◌&&◌, false, List, ℕ, ◌+◌, ◌*◌, min, length, get_or, set, eqb, leb, ltb}
use Rattle.logic.specs.Word.{payload_of}
use Rattle.engine.specs.Encode.{operation_at}
use Rattle.engine.specs.WellFormed.{is_number}
use Rattle.engine.specs.Structure.{declared_before}
use Rattle.call_list.specs.Operations.{is_declare}
use Rattle.call_list.specs.Literal.{payloads}

-- The place of a name in the table, by the numbers of its letter, index and suffix.
abbrev pub slot_of : ℕ → ℕ → ℕ → ℕ
slot_of letter index suffix = 9 * index + 3 * letter + suffix

-- What the table has of a name: 1 where it was declared, 0 where it was not, 2 beyond the table.
abbrev pub name_entry : List ℕ → ℕ → ℕ → ℕ → ℕ
name_entry names letter index suffix =
    cond (ltb index 4294967296 && ltb (slot_of letter index suffix) (length names))
    (get_or names (slot_of letter index suffix) 0) 2

abbrev pub at_most : ℕ → ℕ → Bool
at_most word bound = is_number word && leb (payload_of word) bound

-- What a search finds, where the table says nothing.
abbrev pub by_search : ℕ → Bool → Bool
by_search entry found = cond (eqb entry 2) found (eqb entry 1)

-- One more than the highest index declared so far of a letter and suffix, by their numbers.
abbrev pub top_of : List ℕ → ℕ → ℕ → ℕ
top_of tops letter suffix = get_or tops (3 * letter + suffix) 0

-- A search for a name, of an index below the highest.
abbrev pub search_below : List ℕ → List ℕ → ℕ → ℕ → ℕ → ℕ → Bool
search_below tops w at letter index suffix =
    cond (ltb (payload_of index) (top_of tops (payload_of letter) (payload_of suffix)))
    (declared_before w (min at (length w)) letter index suffix)
    false

-- Three words spell a name declared before a place: from the table, beyond it by the highest index and then by the
-- records.
abbrev pub known_by : List ℕ → List ℕ → List ℕ → ℕ → ℕ → ℕ → ℕ → Bool
known_by names tops w at letter index suffix =
    cond (at_most letter 2 && at_most suffix 2 && is_number index)
    (by_search (name_entry names (payload_of letter) (payload_of index) (payload_of suffix))
    (search_below tops w at letter index suffix))
    false

-- The highest index goes up with a name that a record declares.
abbrev pub note_top : List ℕ → List ℕ → ℕ → List ℕ
note_top tops w at =
    cond (is_declare (operation_at w at) && ltb (top_of tops (payloads w at 0) (payloads w at 2))
    (payloads w at 1 + 1))
    (set tops (3 * payloads w at 0 + payloads w at 2) (payloads w at 1 + 1)) tops

-- The name that a record declares goes into the table.
abbrev pub note_name : List ℕ → List ℕ → ℕ → List ℕ
note_name names w at =
    cond (is_declare (operation_at w at)) (set names (slot_of (payloads w at 0) (payloads w at 1) (payloads w at 2)) 1)
    names
