-- Document 01, "Words": a call record. The table of names, record by record: it has the names declared so far, as far
-- as it reaches.
use Rattle.std.specs.Prelude.{◌≡◌, Bool, true, false, ◌&&◌, ◌||◌, List, [], ◌∷◌, ℕ, ◌≤◌, ◌<◌, eqb}
use Rattle.engine.specs.Encode.{letter_number, suffix_number}
use Rattle.engine.specs.Call.{Name}
use Rattle.name_table.specs.Names.{name_entry, top_of}

-- A name has these numbers for its letter, index and suffix.
abbrev pub is_name : ℕ → ℕ → ℕ → Name → Bool
is_name letter index suffix name =
    eqb letter (letter_number name.letter) && eqb index name.index && eqb suffix (suffix_number name.suffix)

unfoldable pub named : List Name → ℕ → ℕ → ℕ → Bool
named [] letter index suffix = false
named (name ∷ names) letter index suffix = is_name letter index suffix name || named names letter index suffix

-- The table has the names declared so far, as far as it reaches.
abbrev pub NamesTo : List ℕ → List Name → Type 0
NamesTo table names =
    (l i s : ℕ) → l ≤ 2 → s ≤ 2 → (name_entry table l i s ≡ 2 → ⊥) → eqb (name_entry table l i s) 1 ≡ named names l i s

-- No name has an index above the highest of its letter and suffix.
abbrev pub TopsTo : List ℕ → List Name → Type 0
TopsTo tops names = (l i s : ℕ) → l ≤ 2 → s ≤ 2 → named names l i s ≡ true → i < top_of tops l s
