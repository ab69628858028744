-- Document 01, fault 2 in the writer: a recorded mark above 2, or one whose names the calls do not declare.
use Rattle.std.specs.Prelude.{Bool, true, false, cond, ◌&&◌, ◌||◌, List, [], ◌∷◌, ℕ, suc, eqb, ltb, Option, Some, None}
use Rattle.engine.specs.Call.{Name, Call}
use Rattle.engine.specs.Call as c
use Rattle.engine.specs.Encode.{letter_number, suffix_number}
use Rattle.text.specs.Names.{names_of_mark}
use Rattle.name_table.specs.Names.{name_entry, by_search}
use Rattle.name_table.specs.Named.{is_name}

-- Whether some call of a list is of a kind.
unfoldable pub any : (Call → Bool) → List Call → Bool
any p [] = false
any p (call ∷ calls) = p call || any p calls

-- A call declares the name of a letter, an index and a suffix, by their numbers.
abbrev pub declares_name : ℕ → ℕ → ℕ → Call → Bool
declares_name letter index suffix (c.term t) = false
declares_name letter index suffix (c.declare name w) = is_name letter index suffix name
declares_name letter index suffix (c.assert k) = false
declares_name letter index suffix c.check = false

abbrev pub declared : List Call → Name → Bool
declared calls name = any (declares_name (letter_number name.letter) name.index (suffix_number name.suffix)) calls

unfoldable pub all_declared : List Call → List Name → Bool
all_declared calls [] = true
all_declared calls (name ∷ names) = declared calls name && all_declared calls names

-- A mark stands if it is none, or asks for names that the calls declare.
abbrev pub mark_stands : List Call → ℕ → ℕ → Bool
mark_stands calls slot mark = cond (ltb 2 mark) false (all_declared calls (names_of_mark slot mark))

-- The first mark that does not stand; the first mark is the slot's.
unfoldable pub bad_mark : List Call → ℕ → List ℕ → Option ℕ
bad_mark calls slot [] = None
bad_mark calls slot (mark ∷ marks) = cond (mark_stands calls slot mark) (bad_mark calls (suc slot) marks) (Some slot)

-- The number of a letter or a suffix, as a word has it.
abbrev pub low_number : ℕ → ℕ
low_number n = cond (eqb n 1) 1 (cond (eqb n 2) 2 0)

-- ---- as the code goes

-- Whether calls declare a name: by a table of names, beyond it by the calls.
abbrev pub declared_by : List ℕ → List Call → ℕ → ℕ → ℕ → Bool
declared_by names calls letter index suffix =
    by_search (name_entry names letter index suffix) (any (declares_name letter index suffix) calls)

-- Both names of a slot, and what a mark asks, by what is declared.
abbrev pub pair_by : (ℕ → ℕ → ℕ → Bool) → ℕ → ℕ → Bool
pair_by declares letter slot = declares letter slot 1 && declares letter slot 2

abbrev pub stands_by : (ℕ → ℕ → ℕ → Bool) → ℕ → ℕ → Bool
stands_by declares slot mark =
    cond (eqb mark 1) (pair_by declares 0 slot) (cond (eqb mark 2) (pair_by declares 1 slot) (eqb mark 0))

-- The first mark of which a test fails.
unfoldable pub bad_by : (ℕ → ℕ → Bool) → ℕ → List ℕ → Option ℕ
bad_by stands slot [] = None
bad_by stands slot (mark ∷ marks) = cond (stands slot mark) (bad_by stands (suc slot) marks) (Some slot)
