-- Document 01, "Examples": how a declared name is spelled, and which names a recorded slice asks for.
use Rattle.std.specs.Prelude.{cond, List, [], ◌∷◌, ◌++◌, ℕ, suc, eqb}
use Rattle.engine.specs.Call.{Name, Letter, Suffix}
use Rattle.engine.specs.Call as c
use Rattle.text.specs.Bytes.{ascii, decimal}

-- A letter and a suffix around an index in decimal.
abbrev pub spelling : ℕ → ℕ → ℕ → List ℕ
spelling letter index suffix = (letter ∷ []) ++ decimal index ++ (suffix ∷ [])

abbrev pub letter_text : Letter → List ℕ
letter_text c.n = ascii "n"
letter_text c.p = ascii "p"
letter_text c.t = ascii "t"

abbrev pub suffix_text : Suffix → List ℕ
suffix_text c.none = []
suffix_text c.x = ascii "x"
suffix_text c.y = ascii "y"

-- A declared name: its letter, its index in decimal, its suffix.
abbrev pub name_text : Name → List ℕ
name_text name = letter_text name.letter ++ decimal name.index ++ suffix_text name.suffix

abbrev pub both_names : Letter → ℕ → List Name
both_names letter slot =
    record { letter = letter; index = slot; suffix = c.x }
    ∷ record { letter = letter; index = slot; suffix = c.y }
    ∷ []

-- The names that a slot's mark asks for: none (0), its n names (1) or its p names (2), x then y.
abbrev pub names_of_mark : ℕ → ℕ → List Name
names_of_mark slot mark = cond (eqb mark 1) (both_names c.n slot) (cond (eqb mark 2) (both_names c.p slot) [])

-- The names that marks ask for, by ascending slot; the first mark is the slot's.
unfoldable pub asked_from : ℕ → List ℕ → List Name
asked_from slot [] = []
asked_from slot (mark ∷ marks) = names_of_mark slot mark ++ asked_from (suc slot) marks

abbrev pub asked_names : List ℕ → List Name
asked_names marks = asked_from 0 marks
