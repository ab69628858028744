-- Document 01, "Words": a call record. The table of sorts, record by record: it has the sort of every term read so far.
use Rattle.std.specs.Prelude.{◌≡◌, List, ℕ, ◌≤◌, length}
use Rattle.engine.specs.Sorts.{Context, start}
use Rattle.engine.specs.Reached.{Passes, Tabled}

-- n records read well up to a place, with the table of sorts and the number of terms.
pub record ReadTo (w : List ℕ) (at : ℕ) (x : Context) (table : List ℕ) (terms : ℕ) : Type 0 where
  pub records : ℕ
  pub passes : Passes records w 0 start at x
  pub within : at ≤ length w
  pub tabled : Tabled table x.sorts
  pub counts : terms ≡ length x.sorts
