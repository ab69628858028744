-- Document 01, "Examples": the script writer. What the writer goes by, record by record: the tables that the check
-- leaves of a well-formed call list.
use Rattle.std.specs.Prelude.{◌≡◌, cond, List, ℕ, length, leb}
use Rattle.engine.specs.Sorts.{Context, start, leaves}
use Rattle.engine.specs.Encode.{decode}
use Rattle.engine.specs.WellFormed.{well_formed, outcome}
use Rattle.engine.specs.Reached.{Tabled}
use Rattle.call_list.specs.Made.{made}
use Rattle.term_places.specs.Places.{gap_of, Spaced}
use Rattle.name_table.specs.Named.{NamesTo}

-- How many terms are left out between two whose places are noted, with room for so many places.
abbrev pub gap_for : List ℕ → ℕ → ℕ
gap_for w places = cond (leb (length (made (decode w))) places) 0 (gap_of (length w) places)

-- Tables of a well-formed call list: the places of every `gap + 1`th term, the sorts of the first, and the names of low
-- indexes.
pub record HasTables (gap : ℕ) (w places sorts : List ℕ) : Type 0 where
  pub leaving : Context
  pub formed : outcome w ≡ well_formed leaving
  pub spaced : Spaced w places gap (length leaving.sorts)
  pub tabled : Tabled sorts leaving.sorts

abbrev pub HasNames : List ℕ → List ℕ → Type 0
HasNames w names = NamesTo names (leaves start (decode w)).names
