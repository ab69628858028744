-- Laws of bit vectors, proved once over the width: the width of each operation's result, and nat2bv and bv2nat inverse
-- to each other. What bv2nat makes of each operation is in Numbers; the shifts as lists are in Shifts. Assumes nothing.
use Rattle.std.proofs.Common.{◌≡◌, ℕ, zero, suc, ◌+◌, ◌-◌, ◌*◌, ◌/◌, ◌%◌, ◌^◌, ◌<◌, Bool, true, false, cond, not, ◌&&◌, ◌||◌, eqb, [], ◌∷◌, length, sym, refl, ap, ◌∙◌, ap₂, add_comm, pow-suc, suc-ne-zero, add-one, arith, length-append, length-drop, length-take-le}
use native.Mathlib.Nat.{suc_inj, mod-one}
use lib.ListN.{length-map}
use lib.Pow.{mod-pow-add}
use Rattle.logic.specs.Table.{zip_with}
use Rattle.bitvec.specs.Bits.{Bits, bit, bv2nat, nat2bv, odd}
use Rattle.bitvec.specs.Ops as bv

-- ---- widths

pub length-nat2bv : (n v : ℕ) → length (nat2bv n v) ≡ n
unfolding nat2bv
length-nat2bv zero v = refl
length-nat2bv (suc n) v = ap suc (length-nat2bv n (v / 2))

pub length-zip_with : (f : Bool → Bool → Bool) (s t : Bits) → length s ≡ length t → length (zip_with f s t) ≡ length s
length-zip_with f [] t e = refl
length-zip_with f (a ∷ s) [] e = absurd (suc-ne-zero _ e)
length-zip_with f (a ∷ s) (b ∷ t) e = ap suc (length-zip_with f s t (suc_inj e))

pub length-concat : (s t : Bits) → length (bv.concat s t) ≡ length s + length t
length-concat s t = length-append t s ∙ add_comm (length t) (length s)

pub length-extract : (i j : ℕ) (s : Bits) → i < length s → length (bv.extract i j s) ≡ suc i - j
length-extract i j s h = length-take-le (suc i - j) _ (omega (arith, length-drop j s))

pub length-bvnot : (s : Bits) → length (bv.bvnot s) ≡ length s
length-bvnot s = length-map s not

pub length-bvand : (s t : Bits) → length s ≡ length t → length (bv.bvand s t) ≡ length s
length-bvand = length-zip_with ◌&&◌

pub length-bvor : (s t : Bits) → length s ≡ length t → length (bv.bvor s t) ≡ length s
length-bvor = length-zip_with ◌||◌

pub length-bvxor : (s t : Bits) → length s ≡ length t → length (bv.bvxor s t) ≡ length s
length-bvxor = length-zip_with bv.differ

pub length-bvadd : (s t : Bits) → length (bv.bvadd s t) ≡ length s
length-bvadd s t = length-nat2bv (length s) _

pub length-bvmul : (s t : Bits) → length (bv.bvmul s t) ≡ length s
length-bvmul s t = length-nat2bv (length s) _

pub length-bvcomp : (s t : Bits) → length (bv.bvcomp s t) ≡ 1
length-bvcomp s t = refl

pub length-bvshl : (s t : Bits) → length (bv.bvshl s t) ≡ length s
length-bvshl s t = length-nat2bv (length s) _

pub length-bvlshr : (s t : Bits) → length (bv.bvlshr s t) ≡ length s
length-bvlshr s t = length-nat2bv (length s) _

-- Whichever of two is chosen.
pub length-cond : {n : ℕ} (b : Bool) (s t : Bits) → length s ≡ n → length t ≡ n → length (cond b s t) ≡ n
length-cond true s t p q = p
length-cond false s t p q = q

pub length-bvashr : (s t : Bits) → length (bv.bvashr s t) ≡ length s
length-bvashr s t = by_sign (bv.msb s)
  where
    by_sign : (b : Bool) → length (cond b (bv.bvnot (bv.bvlshr (bv.bvnot s) t)) (bv.bvlshr s t)) ≡ length s
    by_sign true = simp (length-map, length-nat2bv)
    by_sign false = length-bvlshr s t

pub length-bvudiv : (s t : Bits) → length (bv.bvudiv s t) ≡ length s
unfolding bv.bvudiv
length-bvudiv s t =
    length-cond (eqb (bv2nat t) 0) _ _ (length-map s (λ b. true)) (length-nat2bv (length s) (bv2nat s / bv2nat t))

pub length-bvurem : (s t : Bits) → length (bv.bvurem s t) ≡ length s
unfolding bv.bvurem
length-bvurem s t = length-cond (eqb (bv2nat t) 0) s _ refl (length-nat2bv (length s) (bv2nat s % bv2nat t))

pub length-bvneg : (s : Bits) → length (bv.bvneg s) ≡ length s
length-bvneg s = length-nat2bv (length s) _

-- What holds of the four vectors holds of the one that the signs choose.
pub by_signs_lem : (P : Bits → Type 0) (s t : Bits) {neither first second both : Bits}
    → P neither → P first → P second → P both → P (bv.by_signs s t neither first second both)
by_signs_lem P s t {neither} {first} {second} {both} p q r u = go (bv.msb s) (bv.msb t)
  where
    go : (a b : Bool) → P (cond (not a && not b) neither (cond (a && not b) first (cond (not a && b) second both)))
    go true true = u
    go true false = q
    go false true = r
    go false false = p

pub length-bvsdiv : (s t : Bits) → length (bv.bvsdiv s t) ≡ length s
unfolding bv.bvsdiv
length-bvsdiv s t =
    by_signs_lem (λ r. length r ≡ length s) s t (length-bvudiv s t)
    (length-bvneg (bv.bvudiv (bv.bvneg s) t) ∙ length-bvudiv (bv.bvneg s) t ∙ length-bvneg s)
    (length-bvneg (bv.bvudiv s (bv.bvneg t)) ∙ length-bvudiv s (bv.bvneg t))
    (length-bvudiv (bv.bvneg s) (bv.bvneg t) ∙ length-bvneg s)

pub length-bvsrem : (s t : Bits) → length (bv.bvsrem s t) ≡ length s
unfolding bv.bvsrem
length-bvsrem s t =
    by_signs_lem (λ r. length r ≡ length s) s t (length-bvurem s t)
    (length-bvneg (bv.bvurem (bv.bvneg s) t) ∙ length-bvurem (bv.bvneg s) t ∙ length-bvneg s)
    (length-bvurem s (bv.bvneg t))
    (length-bvneg (bv.bvurem (bv.bvneg s) (bv.bvneg t)) ∙ length-bvurem (bv.bvneg s) (bv.bvneg t) ∙ length-bvneg s)

-- ---- nat2bv and bv2nat

-- The low digit and the rest of a number in binary.
pub odd-bit : (b : Bool) (m : ℕ) → odd (bit b + 2 * m) ≡ b
odd-bit true m = rw (low m)
  where
    low : (m : ℕ) → (1 + 2 * m) % 2 ≡ 1
    low m = omega arith
odd-bit false m = rw (low m)
  where
    low : (m : ℕ) → (0 + 2 * m) % 2 ≡ 0
    low m = omega arith

pub half-bit : (b : Bool) (m : ℕ) → (bit b + 2 * m) / 2 ≡ m
half-bit true m = omega arith
half-bit false m = omega arith

pub bit-odd : (v : ℕ) → bit (odd v) ≡ v % 2
bit-odd v = go (v % 2) (omega arith)
  where
    go : (k : ℕ) → k < 2 → bit (eqb k 1) ≡ k
    go zero h = refl
    go (suc zero) h = refl
    go (suc (suc k)) h = absurd (omega arith)

pub nat2bv_cons : (n : ℕ) (b : Bool) (m : ℕ) → nat2bv (suc n) (bit b + 2 * m) ≡ b ∷ nat2bv n m
unfolding nat2bv
nat2bv_cons n b m = ap₂ (λ (c : Bool) (r : Bits). c ∷ r) (odd-bit b m) (ap (nat2bv n) (half-bit b m))

-- A bit vector is the one of its width that has its number.
pub nat2bv-bv2nat : (s : Bits) → nat2bv (length s) (bv2nat s) ≡ s
unfolding bv2nat nat2bv
nat2bv-bv2nat [] = refl
nat2bv-bv2nat (b ∷ s) = nat2bv_cons (length s) b (bv2nat s) ∙ ap (λ (r : Bits). b ∷ r) (nat2bv-bv2nat s)

pub bv2nat-nat2bv : (n v : ℕ) → bv2nat (nat2bv n v) ≡ v % 2 ^ n
unfolding bv2nat nat2bv
bv2nat-nat2bv zero v = sym (mod-one v)
bv2nat-nat2bv (suc n) v = rw (bv2nat-nat2bv n (v / 2), bit-odd, ← add-one n) (omega (arith, mod-pow-add v n 1))

pub bv2nat_lt : (s : Bits) → bv2nat s < 2 ^ length s
unfolding bv2nat
bv2nat_lt [] = omega arith
bv2nat_lt (true ∷ s) = let h = bv2nat_lt s in omega (arith, pow-suc 2 (length s))
bv2nat_lt (false ∷ s) = let h = bv2nat_lt s in omega (arith, pow-suc 2 (length s))

-- The same at a width that is known to be the vector's.
pub nat2bv_of : (n : ℕ) (s : Bits) → length s ≡ n → nat2bv n (bv2nat s) ≡ s
nat2bv_of n s e = ap (λ (k : ℕ). nat2bv k (bv2nat s)) (sym e) ∙ nat2bv-bv2nat s

-- nat2bv sees a number only modulo 2 ^ n.
pub nat2bv_mod : (n v : ℕ) → nat2bv n (v % 2 ^ n) ≡ nat2bv n v
nat2bv_mod n v = ap (nat2bv n) (sym (bv2nat-nat2bv n v)) ∙ nat2bv_of n (nat2bv n v) (length-nat2bv n v)

-- At one width a vector is known by its number.
pub bv2nat_inj : (s t : Bits) → length s ≡ length t → bv2nat s ≡ bv2nat t → s ≡ t
bv2nat_inj s t e f = sym (nat2bv-bv2nat s) ∙ ap₂ nat2bv e f ∙ nat2bv-bv2nat t
