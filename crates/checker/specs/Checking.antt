-- Document 01, "Faults and what stays", 19. What the check answers, and the tables that it leaves.
use Rattle.std.specs.Prelude.{◌≡◌, Bool, List, ℕ, length, Result, Ok, Err}
use Rattle.engine.specs.Sorts.{Context, start, after}
use Rattle.engine.specs.Encode.{Op, call_of}
use Rattle.engine.specs.WellFormed.{Outcome, well_formed, malformed, outcome}
use Rattle.checker.specs.declared.Counts.{Counts}
use Rattle.term_table.specs.Sorted.{ReadTo}
use Rattle.term_places.specs.Places.{Spaced}
use Rattle.name_table.specs.Named.{NamesTo}

-- The answer of the checker: how many terms and names, or the place.
abbrev pub checked_as : Outcome → Result Counts ℕ
checked_as (well_formed x) = Ok (record { terms = length x.sorts; declared = length x.names })
checked_as (malformed at) = Err at

-- Whether an operation is the check, or none that a list can have.
abbrev pub is_check : Op → Bool
is_check op = (after start (call_of op 0 (λ i. 0))).checked

-- The tables of a well-formed list: the places of every `gap + 1`th term, the sorts of the first, and the names of low
-- indexes.
pub record TablesBy (gap : ℕ) (w places sorts names : List ℕ) (y : Context) : Type 0 where
  pub read : ReadTo w (length w) y sorts (length y.sorts)
  pub spaced : Spaced w places gap (length y.sorts)
  pub named : NamesTo names y.names

-- The answer of the check, and the tables that it leaves for a well-formed list.
pub record CheckedBy (gap : ℕ) (w places sorts names : List ℕ) (answer : Result Counts ℕ) : Type 0 where
  pub is : answer ≡ checked_as (outcome w)
  pub tabled : (y : Context) → outcome w ≡ well_formed y → TablesBy gap w places sorts names y
