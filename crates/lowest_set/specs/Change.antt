-- A set that differs from another in one number at most.
use Rattle.std.specs.Prelude.{◌≡◌, ◌≢◌, Bool, cond, ℕ}

-- The set after has the members of the set before, except that a word says whether it has i.
pub record Changes (before after : ℕ → Bool) (i word : ℕ) : Type 0 where
  pub other : (j : ℕ) → j ≢ i → after j ≡ before j
  pub there : word ≡ cond (after i) 1 0
