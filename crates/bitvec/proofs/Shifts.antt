-- Laws of the shifts, proved once over the width: by numbers, at and above the width, and as lists. Assumes nothing.
use Rattle.std.proofs.Common.{◌≡◌, ℕ, zero, suc, ◌+◌, ◌-◌, ◌*◌, ◌/◌, ◌%◌, ◌^◌, ◌<◌, ◌≤◌, Bool, true, false, cond, [], ◌∷◌, ◌++◌, length, take, drop, replicate, sym, refl, ap, ◌∙◌, ap₂, lt_of_lt_of_le, lt_of_le_of_lt, mod-eq_of_lt, mul_assoc, pow-suc, mul-one, sub-add_cancel, div-le_self, arith, length-append, length-drop, pow_mono, pow-add}
use native.Mathlib.Nat.{div-eq_of_lt}
use native.Mathlib.Nat.{sub-zero, mul-mod_left}
use lib.ListN.{length-replicate}
use Rattle.bitvec.specs.Bits.{Bits, bv2nat, nat2bv}
use Rattle.bitvec.specs.Ops as bv
use Rattle.bitvec.proofs.Laws.{length-bvnot, length-bvlshr, nat2bv_cons, nat2bv-bv2nat, bv2nat-nat2bv, bv2nat_lt}
use Rattle.bitvec.proofs.Numbers.{bv2nat-bvnot, bv2nat-drop}

-- ---- by numbers

pub bv2nat-bvshl : (s t : Bits) → bv2nat (bv.bvshl s t) ≡ bv2nat s * 2 ^ bv2nat t % 2 ^ length s
bv2nat-bvshl s t = bv2nat-nat2bv (length s) (bv2nat s * 2 ^ bv2nat t)

pub bv2nat-bvlshr : (s t : Bits) → bv2nat (bv.bvlshr s t) ≡ bv2nat s / 2 ^ bv2nat t
bv2nat-bvlshr s t =
    bv2nat-nat2bv (length s) (bv2nat s / 2 ^ bv2nat t)
    ∙ mod-eq_of_lt (lt_of_le_of_lt (div-le_self (bv2nat s) (2 ^ bv2nat t)) (bv2nat_lt s))

-- The top bit decides: a negative vector is shifted as its complement, and complemented again.
pub bv2nat-bvashr : (s t : Bits)
    → bv2nat (bv.bvashr s t)
    ≡ cond (bv.msb s) (2 ^ length s - 1 - (2 ^ length s - 1 - bv2nat s) / 2 ^ bv2nat t) (bv2nat s / 2 ^ bv2nat t)
bv2nat-bvashr s t = go (bv.msb s)
  where
    go : (b : Bool) → bv2nat (cond b (bv.bvnot (bv.bvlshr (bv.bvnot s) t)) (bv.bvlshr s t))
        ≡ cond b (2 ^ length s - 1 - (2 ^ length s - 1 - bv2nat s) / 2 ^ bv2nat t) (bv2nat s / 2 ^ bv2nat t)
    go true =
        rw (
          bv2nat-bvnot (bv.bvlshr (bv.bvnot s) t),
          bv2nat-bvlshr (bv.bvnot s) t,
          length-bvlshr (bv.bvnot s) t,
          bv2nat-bvnot s,
          length-bvnot s,
        )
    go false = bv2nat-bvlshr s t

-- ---- an amount at or above the width

pub bvshl_out : (s t : Bits) → length s ≤ bv2nat t → bv2nat (bv.bvshl s t) ≡ 0
bvshl_out s t h = bv2nat-bvshl s t ∙ shifted_out (bv2nat s) (length s) (bv2nat t) h
  where
    shifted_out : (v w k : ℕ) → w ≤ k → v * 2 ^ k % 2 ^ w ≡ 0
    shifted_out v w k h =
        ap (λ (p : ℕ). v * p % 2 ^ w) (ap (λ (n : ℕ). 2 ^ n) (sym (sub-add_cancel h)) ∙ pow-add 2 (k - w) w)
        ∙ ap (λ (p : ℕ). p % 2 ^ w) (sym (mul_assoc v (2 ^ (k - w)) (2 ^ w))) ∙ mul-mod_left (v * 2 ^ (k - w)) (2 ^ w)

out : (s t : Bits) → length s ≤ bv2nat t → (v : ℕ) → v < 2 ^ length s → v / 2 ^ bv2nat t ≡ 0
out s t h v l = div-eq_of_lt (lt_of_lt_of_le l (pow_mono h))

pub bvlshr_out : (s t : Bits) → length s ≤ bv2nat t → bv2nat (bv.bvlshr s t) ≡ 0
bvlshr_out s t h = bv2nat-bvlshr s t ∙ out s t h (bv2nat s) (bv2nat_lt s)

-- All bits are the sign.
pub bvashr_out : (s t : Bits) → length s ≤ bv2nat t → bv2nat (bv.bvashr s t) ≡ cond (bv.msb s) (2 ^ length s - 1) 0
bvashr_out s t h =
    bv2nat-bvashr s t
    ∙ ap₂ (cond (bv.msb s))
    (ap (λ (q : ℕ). 2 ^ length s - 1 - q) (out s t h (2 ^ length s - 1 - bv2nat s) (omega (arith, bv2nat_lt s)))
    ∙ sub-zero (2 ^ length s - 1))
    (out s t h (bv2nat s) (bv2nat_lt s))

-- ---- as lists: zeros come in, what leaves the width is lost

nat2bv-take : (n : ℕ) (s : Bits) → n ≤ length s → nat2bv n (bv2nat s) ≡ take n s
unfolding bv2nat
nat2bv-take zero s h = unfold nat2bv in refl
nat2bv-take (suc n) [] h = absurd (omega arith)
nat2bv-take (suc n) (b ∷ s) h = nat2bv_cons n b (bv2nat s) ∙ ap (λ (r : Bits). b ∷ r) (nat2bv-take n s (omega arith))

-- A top zero does not count.
pub bv2nat-zeros : (s : Bits) (m : ℕ) → bv2nat (s ++ replicate m false) ≡ bv2nat s
unfolding bv2nat
bv2nat-zeros [] zero = refl
bv2nat-zeros [] (suc m) = rw (bv2nat-zeros [] m)
bv2nat-zeros (b ∷ s) m = rw (bv2nat-zeros s m)

pub nat2bv-zeros : (s : Bits) (m : ℕ) → nat2bv (length s + m) (bv2nat s) ≡ s ++ replicate m false
nat2bv-zeros s m =
    ap₂ nat2bv
    (sym (length-append s (replicate m false) ∙ ap (λ (q : ℕ). length s + q) (length-replicate m false)))
    (sym (bv2nat-zeros s m))
    ∙ nat2bv-bv2nat (s ++ replicate m false)

pub shl_list : (n k : ℕ) (s : Bits) → n ≤ k + length s → nat2bv n (bv2nat s * 2 ^ k) ≡ take n (replicate k false ++ s)
shl_list n zero s h = ap (nat2bv n) (mul-one (bv2nat s)) ∙ nat2bv-take n s (omega arith)
shl_list zero (suc k) s h = unfold nat2bv in refl
shl_list (suc n) (suc k) s h =
    ap (nat2bv (suc n)) (ap (λ (q : ℕ). bv2nat s * q) (pow-suc 2 k) ∙ omega arith)
    ∙ nat2bv_cons n false (bv2nat s * 2 ^ k)
    ∙ ap (λ (r : Bits). false ∷ r) (shl_list n k s (omega arith))

pub lshr_list : (k : ℕ) (s : Bits)
    → nat2bv (length s) (bv2nat s / 2 ^ k) ≡ drop k s ++ replicate (length s - length (drop k s)) false
lshr_list k s = ap₂ nat2bv (sym filled) (sym (bv2nat-drop k s)) ∙ nat2bv-zeros (drop k s) (length s - length (drop k s))
  where
    filled : length (drop k s) + (length s - length (drop k s)) ≡ length s
    filled = let h = length-drop k s in omega arith
