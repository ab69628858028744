-- A statement about all trits, by computing it for each.
use mathlib.Core.Bool.{Bool, true, false, ◌&&◌}
use lib.Dec.{T}
use Rattle.logic.specs.declared.Trit.{Trit}
use Rattle.logic.specs.declared.Trit.TheVariants.{Zero, One, Undef}

abbrev pub all_t : (Trit → Bool) → Bool
all_t p = p Zero && (p One && p Undef)

pub and_first : (a b : Bool) → T (a && b) → T a
and_first true b h = tt
and_first false b h = absurd h

pub and_second : (a b : Bool) → T (a && b) → T b
and_second true b h = h
and_second false b h = absurd h

pub all₁ : (p : Trit → Bool) → T (all_t p) → (a : Trit) → T (p a)
all₁ p h Zero = and_first (p Zero) (p One && p Undef) h
all₁ p h One = and_first (p One) (p Undef) (and_second (p Zero) (p One && p Undef) h)
all₁ p h Undef = and_second (p One) (p Undef) (and_second (p Zero) (p One && p Undef) h)

pub all₂ : (p : Trit → Trit → Bool) → T (all_t λ a. all_t λ b. p a b) → (a b : Trit) → T (p a b)
all₂ p h a = all₁ (p a) (all₁ (λ a. all_t λ b. p a b) h a)

pub all₃ : (p : Trit → Trit → Trit → Bool) → T (all_t λ a. all_t λ b. all_t λ c. p a b c) → (a b c : Trit) → T (p a b c)
all₃ p h a = all₂ (p a) (all₁ (λ a. all_t λ b. all_t λ c. p a b c) h a)
