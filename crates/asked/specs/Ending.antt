-- Document 01, "Examples": what follows the calls' lines in the script, the names asked.
use Rattle.std.specs.Prelude.{◌≡◌, Bool, true, false, List, [], ◌∷◌, ◌++◌, map, ℕ, ◌<◌, length, drop, get_or}
use Rattle.engine.specs.Call.{Name, Call}
use Rattle.engine.specs.Call as c
use Rattle.text.specs.Bytes.{ascii}
use Rattle.text.specs.Names.{name_text, spelling, asked_from}
use Rattle.pieces.specs.Text.{spaced}

-- The names asked, if any, with a space between them.
abbrev pub get_value : List Name → List ℕ
get_value [] = []
get_value (name ∷ names) = ascii "(get-value (" ++ name_text name ++ spaced (map name_text names) ++ ascii "))\n"

-- After check the names are asked; without it nothing is.
abbrev pub ending : Bool → List Name → List ℕ
ending true names = get_value names
ending false names = ascii "; nothing asked\n"

-- ---- as the code goes

-- Whether a call is a check.
abbrev pub checks : Call → Bool
checks (c.term t) = false
checks (c.declare name w) = false
checks (c.assert k) = false
checks c.check = true

-- The names that the marks from a slot on ask for, each after a space.
abbrev pub names_from : List ℕ → ℕ → List ℕ
names_from marks slot = spaced (map name_text (asked_from slot (drop slot marks)))

-- The first slot that asks for names: those before it ask for none.
pub record FirstAsked (marks : List ℕ) (slot : ℕ) : Type 0 where
  pub asks : slot < length marks → (get_or marks slot 0 ≡ 1 → ⊥) → get_or marks slot 0 ≡ 2
  pub same : asked_from 0 marks ≡ asked_from slot (drop slot marks)

-- The line that asks for the pair of a slot and for further names.
abbrev pub values_text : ℕ → ℕ → List ℕ → List ℕ
values_text letter slot names =
    ascii "(get-value (" ++ (spelling letter slot 120 ++ (ascii " " ++ spelling letter slot 121)) ++ names ++ ascii
    "))\n"
