-- When a control is inactive for sure. Assumes nothing.
use mathlib.Core.Path.{◌≡◌, refl}
use mathlib.Core.Bool.{Bool, true, false, cond}
use Prim.Native.Nat.{ℕ, ◌-◌}
use borrow.Author.Tests.{ne_eqb}
use lib.Dec.{eqb}
use Rattle.logic.specs.Net.{constant, slot, net_of}
use Rattle.logic.specs.declared.Trit.TheVariants.{Undef}
use Rattle.smt.specs.Builder.{is_always_inactive}

-- A net that is no 0 and no 1 is never inactive for sure.
pub never_inactive : (inverted : Bool) (n : ℕ) → (n ≡ 0 → ⊥) → (n ≡ 1 → ⊥) → is_always_inactive inverted (net_of n) ≡ false
never_inactive inverted n no0 no1 = rw (ne_eqb n 0 no0, ne_eqb n 1 no1) (go (eqb n 536870911))
  where
    go : (b : Bool) → is_always_inactive inverted (cond b (constant Undef) (slot (n - 2))) ≡ false
    go true = refl
    go false = refl
