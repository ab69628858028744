-- Literals of zeros and of ones, by their numbers. Assumes nothing.
use mathlib.Core.Path.{◌≡◌, refl, ap, ap₂, ◌∙◌}
use mathlib.Core.Bool.{true, false}
use mathlib.Core.List.{◌∷◌}
use Prim.Native.Nat.{ℕ, zero, suc, ◌+◌, ◌*◌, ◌-◌, ◌/◌, ◌%◌, ◌^◌, ◌≤◌, min}
use native.Mathlib.Omega.{arith}
use native.Mathlib.Nat.{suc-add, pow-suc}
use lib.Dec.{eqb}
use lib.ListN.{replicate}
use Rattle.bitvec.specs.Bits.{nat2bv}

-- A width of at most 64 is that of its literal.
pub narrow : (w : ℕ) → w ≤ 64 → min w 64 ≡ w
narrow w h = omega arith

pub zeros-lit : (w : ℕ) → nat2bv w 0 ≡ replicate w false
unfolding nat2bv
zeros-lit zero = refl
zeros-lit (suc w) = ap (λ l. false ∷ l) (zeros-lit w)

-- A number whose next is a power of two is all ones below it.
ones_low : (w more n : ℕ) → suc n ≡ 2 ^ (w + more) → nat2bv w n ≡ replicate w true
unfolding nat2bv
ones_low zero more n e = refl
ones_low (suc w) more n e =
    let double : suc n ≡ 2 ^ (w + more) * 2 = e ∙ ap (λ k. 2 ^ k) (suc-add w more) ∙ pow-suc 2 (w + more) in
    ap₂ ◌∷◌ (ap (λ k. eqb k 1) (let h : n % 2 ≡ 1 = omega arith in h))
    (ones_low w more (n / 2) (let h : suc (n / 2) ≡ 2 ^ (w + more) = omega arith in h))

-- All 64 ones: a literal takes as many as its width.
pub ones-lit : (w : ℕ) → w ≤ 64 → nat2bv w 18446744073709551615 ≡ replicate w true
ones-lit w low =
    ones_low w (64 - w) 18446744073709551615 (ap (λ k. 2 ^ k) (let h : 64 ≡ w + (64 - w) = omega arith in h))
