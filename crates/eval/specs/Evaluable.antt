-- Document 01, "Examples": the evaluator. What evaluating record by record asks of a list, its bits and its tables.
use Rattle.std.specs.Prelude.{◌≡◌, List, ℕ, ◌≤◌, length, None}
use Rattle.engine.specs.Sorts.{Context}
use Rattle.engine.specs.Encode.{decode}
use Rattle.engine.specs.WellFormed.{well_formed, outcome}
use Rattle.engine.specs.Reached.{Tabled}
use Rattle.term_places.specs.Places.{Spaced}
use Rattle.bits_given.specs.Given.{bits_fault}

-- What evaluating record by record asks: a well-formed list, bits that fit, and room for its terms.
pub record Evaluable (gap : ℕ) (w bits slice table places : List ℕ) : Type 0 where
  pub leaving : Context
  pub formed : outcome w ≡ well_formed leaving
  pub fits : bits_fault 0 (decode w) bits ≡ None
  pub room : length leaving.sorts ≤ length slice
  pub tabled : Tabled table leaving.sorts
  pub spaced : Spaced w places gap (length leaving.sorts)
