-- Document 01, "Words": a call record. What holds of a call list that was read well so far: its records, and the sorts
-- of their terms.
use Rattle.std.specs.Prelude.{◌≡◌, true, List, ℕ, zero, suc, ◌<◌, length, get_or}
use Rattle.std.proofs.Math.Option.{none}
use Rattle.engine.specs.Sorts.{Sort, sort_at, Context, after}
use Rattle.engine.specs.Encode.{bare, next_at, call_at}
use Rattle.engine.specs.WellFormed.{head_stands, wrong_argument}

-- A record stands at a place, after what the calls before it leave.
pub record Right (w : List ℕ) (at : ℕ) (x : Context) : Type 0 where
  pub inside : at < length w
  pub head : head_stands x w at ≡ true
  pub arguments : wrong_argument x.sorts w at ≡ none

-- n records are right, from a place and context to another.
abbrev pub Passes : ℕ → List ℕ → ℕ → Context → ℕ → Context → Type 0
Passes zero w at x end y = (at ≡ end) × (x ≡ y)
Passes (suc n) w at x end y = Right w at x × Passes n w (next_at bare w at) (after x (call_at w at)) end y

-- A table has the sorts of the first terms.
abbrev pub Tabled : List ℕ → List Sort → Type 0
Tabled table sorts = (k : ℕ) → k < length table → k < length sorts → get_or table k 0 ≡ sort_at sorts k
