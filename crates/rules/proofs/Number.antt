-- Vectors of trits as numbers: bit i of a sum depends on the operands' low i + 1 trits alone.
use mathlib.Core.Path.{◌≡◌}
use mathlib.Core.List.{List, [], ◌∷◌}
use Prim.Native.Nat.{ℕ, zero, suc, ◌+◌, ◌*◌, ◌/◌, ◌%◌, ◌^◌}
use native.Mathlib.Nat.{pow-suc, add-mul-div_left}
use native.Mathlib.Omega.{arith}
use native.Mathlib.Numerals.{add-one}
use lib.Pow.{pow_pos}
use lib.ListN.{take, drop}
use Rattle.logic.specs.declared.Trit.{Trit}
use Rattle.rules.specs.Trits.{number, bit_at}

-- The k low trits and the rest.
pub number_split : (k : ℕ) (a : List Trit) → number a ≡ number (take k a) + 2 ^ k * number (drop k a)
unfolding number
number_split zero a = omega arith
number_split (suc k) [] = omega arith
number_split (suc k) (x ∷ a) = let rest = number_split k a in rw (pow-suc 2 k) (omega arith)

-- Bit i does not see multiples of 2 ^ (i + 1).
pub bit_at-low : (i u w : ℕ) → bit_at (u + 2 ^ suc i * w) i ≡ bit_at u i
bit_at-low i u w = rw (regrouped, add-mul-div_left u (2 * w) (pow_pos i), even)
  where
    regrouped : u + 2 ^ suc i * w ≡ u + 2 ^ i * (2 * w)
    regrouped = rw (pow-suc 2 i) (omega arith)

    even : (u / 2 ^ i + 2 * w) % 2 ≡ u / 2 ^ i % 2
    even = omega arith

pub sum_low : (i : ℕ) (a b : List Trit) (c : ℕ)
    → bit_at (number a + number b + c) i ≡ bit_at (number (take (i + 1) a) + number (take (i + 1) b) + c) i
sum_low i a b c = rw (add-one i, regrouped) (bit_at-low i _ (number (drop (suc i) a) + number (drop (suc i) b)))
  where
    regrouped : number a + number b + c ≡ number (take (suc i) a) + number (take (suc i) b) + c
        + 2 ^ suc i * (number (drop (suc i) a) + number (drop (suc i) b))
    regrouped = omega (arith, number_split (suc i) a, number_split (suc i) b)
