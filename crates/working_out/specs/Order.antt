-- Document 01, "Reading nets". Finite search: the lowest number below a bound that passes a test.
use Rattle.std.specs.Prelude.{Bool, true, false, cond, ℕ, zero, suc}
use Rattle.std.proofs.Math.Option.{Option, none, some}

-- The value of an optional number: x where there is none.
abbrev pub option : {X : Type 0} → Option ℕ → X → (ℕ → X) → X
option none x f = x
option (some k) x f = f k

abbrev pub is_some : Option ℕ → Bool
is_some none = false
is_some (some k) = true

-- The lowest number below n that passes a test.
unfoldable pub lowest : ℕ → (ℕ → Bool) → Option ℕ
lowest zero p = none
lowest (suc n) p = option (lowest n p) (cond (p n) (some n) none) some
