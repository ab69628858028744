-- The lowest number below a bound that passes a test, or the bound where none does.
use Rattle.std.specs.Prelude.{◌≡◌, Bool, true, false, ℕ, ◌≤◌, ◌<◌}

-- No number before v passes, and v does unless it is the bound.
pub record First (n : ℕ) (p : ℕ → Bool) (v : ℕ) : Type 0 where
  pub within : v ≤ n
  pub before : (j : ℕ) → j < v → p j ≡ false
  pub here : v < n → p v ≡ true
