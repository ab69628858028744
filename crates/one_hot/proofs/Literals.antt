-- Literals of trits, none of which is X, by their numbers: all zero, and one hot. Assumes nothing.
use mathlib.Core.Path.{◌≡◌, refl, sym, ap, ap₂, ◌∙◌}
use mathlib.Core.Bool.{Bool, true, false, cond}
use mathlib.Core.List.{◌∷◌, map}
use Prim.Native.Nat.{ℕ, zero, suc, ◌*◌, ◌/◌, ◌%◌, ◌^◌}
use native.Mathlib.Omega.{arith}
use native.Mathlib.Nat.{pow-suc}
use lib.Dec.{eqb, eqb-zero-suc, eqb-suc-zero, eqb-suc-suc}
use lib.ListN.{replicate}
use Rattle.logic.specs.Table.{tab}
use Rattle.logic.proofs.TableLaws.{tab_ext, tab_const, map-tab}
use Rattle.logic.specs.Trit.{x_of, y_of}
use Rattle.logic.specs.declared.Trit.TheVariants.{Zero, One}
use Rattle.bitvec.specs.Bits.{nat2bv}
use Rattle.bits.proofs.Literals.{zeros-lit}
use Rattle.smt.specs.Builder.{one_hot}

-- ---- all zero

pub zeros-x : (k : ℕ) → nat2bv k 0 ≡ map x_of (replicate k Zero)
unfolding nat2bv
zeros-x zero = refl
zeros-x (suc k) = ap (λ l. false ∷ l) (zeros-x k)

pub zeros-y : (k : ℕ) → nat2bv k 0 ≡ map y_of (replicate k Zero)
unfolding nat2bv
zeros-y zero = refl
zeros-y (suc k) = ap (λ l. false ∷ l) (zeros-y k)

-- ---- one hot

pub hot_x : (k i : ℕ) → nat2bv k 0 ≡ map x_of (one_hot k i)
hot_x k i = zeros-lit k ∙ tab_const k false ∙ tab_ext k _ _ (λ j low. defined (eqb j i)) ∙ sym (map-tab x_of k _)
  where
    defined : (b : Bool) → false ≡ x_of (cond b One Zero)
    defined true = refl
    defined false = refl

-- A power of two has one bit.
power_bits : (k i : ℕ) → nat2bv k (2 ^ i) ≡ tab k (λ j. eqb j i)
unfolding nat2bv tab
power_bits zero i = refl
power_bits (suc k) zero =
    ap (λ l. true ∷ l) (zeros-lit k ∙ tab_const k false ∙ tab_ext k _ _ (λ j low. sym (eqb-suc-zero j)))
power_bits (suc k) (suc i) =
    let double : 2 ^ suc i ≡ 2 ^ i * 2 = pow-suc 2 i in
    let half : 2 ^ suc i / 2 ≡ 2 ^ i = omega arith in
    let even : 2 ^ suc i % 2 ≡ 0 = omega arith in
    ap₂ ◌∷◌ (ap (λ m. eqb m 1) even ∙ sym (eqb-zero-suc i))
    (ap (nat2bv k) half ∙ power_bits k i ∙ tab_ext k _ _ (λ j low. sym (eqb-suc-suc j i)))

pub hot_y : (k i : ℕ) → nat2bv k (2 ^ i) ≡ map y_of (one_hot k i)
hot_y k i = power_bits k i ∙ tab_ext k _ _ (λ j low. shown (eqb j i)) ∙ sym (map-tab y_of k _)
  where
    shown : (b : Bool) → b ≡ y_of (cond b One Zero)
    shown true = refl
    shown false = refl
