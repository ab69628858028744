-- Document 01, "Examples": the answer reader. What a solver prints for a table, with any y under an X, and the tables
-- that fit recorded marks.
use Rattle.std.specs.Prelude.{◌≡◌, Bool, true, false, cond, List, [], ◌∷◌, ◌++◌, ℕ, suc, eqb}
use Rattle.logic.specs.Trit.{trit_number}
use Rattle.logic.specs.declared.Trit.{Trit}
use Rattle.engine.specs.Call.{Name}
use Rattle.text.specs.Bytes.{ascii}
use Rattle.text.specs.Names.{name_text}

-- A table that fits recorded marks: 3 where the mark is 0, the number of a trit where it is 1 or 2.
pub data Fits : List ℕ → List ℕ → Type 0 where
  none : Fits [] []
  absent : {marks table : List ℕ} → Fits marks table → Fits (0 ∷ marks) (3 ∷ table)
  current : {marks table : List ℕ} (t : Trit) → Fits marks table → Fits (1 ∷ marks) (trit_number t ∷ table)
  past : {marks table : List ℕ} (t : Trit) → Fits marks table → Fits (2 ∷ marks) (trit_number t ∷ table)

-- The bits that show an entry: x, and y, which is left to a choice under an X.
abbrev pub bits_of_entry : Bool → ℕ → List Bool
bits_of_entry hidden entry = cond (eqb entry 3) [] (eqb entry 2 ∷ cond (eqb entry 2) hidden (eqb entry 1) ∷ [])

unfoldable pub bits_of_table : (ℕ → Bool) → ℕ → List ℕ → List Bool
bits_of_table hidden slot [] = []
bits_of_table hidden slot (entry ∷ entries) = bits_of_entry (hidden slot) entry ++ bits_of_table hidden (suc slot) entries

abbrev pub value_text : Bool → List ℕ
value_text true = ascii "#b1"
value_text false = ascii "#b0"

-- (n0x #b1)
abbrev pub pair_text : Name → Bool → List ℕ
pair_text name bit = ascii "(" ++ (name_text name ++ (ascii " " ++ (value_text bit ++ ascii ")")))

-- Pairs, each after a gap.
unfoldable pub pairs_text : List ℕ → List Name → List Bool → List ℕ
pairs_text gap [] bits = []
pairs_text gap (name ∷ names) [] = []
pairs_text gap (name ∷ names) (bit ∷ bits) = gap ++ (pair_text name bit ++ pairs_text gap names bits)

-- sat, and the list of the pairs asked, if any: a line feed and a space between them as one solver has it, or a space
-- as another.
abbrev pub printed : List ℕ → List Name → List Bool → List ℕ
printed gap [] bits = ascii "sat\n"
printed gap (name ∷ names) [] = ascii "sat\n"
printed gap (name ∷ names) (bit ∷ bits) =
    ascii "sat\n(" ++ (pair_text name bit ++ (pairs_text gap names bits ++ ascii ")\n"))

-- Some test answers alike on all bytes.
abbrev pub All : (ℕ → Bool) → Bool → List ℕ → Type 0
All test answer [] = Unit {0}
All test answer (b ∷ bytes) = (test b ≡ answer) × All test answer bytes
