-- The divisions as arithmetic, proved once over the width: by a divisor that is not zero, unsigned ones are those of
-- the numbers, and signed ones those of the sizes, negated by the signs. Assumes nothing.
use Rattle.std.proofs.Common.{◌≡◌, ℕ, zero, suc, ◌-◌, ◌/◌, ◌%◌, ◌^◌, ◌<◌, Bool, true, false, cond, not, ◌&&◌, [], ◌∷◌, map, length, sym, refl, ap, ◌∙◌, ap₂, lt_of_le_of_lt, mod-eq_of_lt, pow-suc, div-le_self, arith, pow_pos, eq-eqb, ne_eqb}
use mathlib.Core.Bool.{false≢true}
use native.Mathlib.Nat.{zero-div, mod-le}
use Rattle.bitvec.specs.Bits.{Bits, bv2nat, nat2bv, odd}
use Rattle.bitvec.specs.Ops as bv
use Rattle.bitvec.proofs.Laws.{length-nat2bv, length-bvneg, length-cond, bv2nat-nat2bv, bv2nat_lt}
use Rattle.bitvec.proofs.Numbers.{bit_at}

-- ---- negation

pub bv2nat-bvneg : (s : Bits) → 0 < bv2nat s → bv2nat (bv.bvneg s) ≡ 2 ^ length s - bv2nat s
bv2nat-bvneg s h = bv2nat-nat2bv (length s) (2 ^ length s - bv2nat s) ∙ mod-eq_of_lt (omega (arith, bv2nat_lt s))

pub bvneg-number : (n v : ℕ) → v < 2 ^ n → bv.bvneg (nat2bv n v) ≡ nat2bv n (2 ^ n - v)
bvneg-number n v h =
    ap₂ (λ (k x : ℕ). nat2bv k (2 ^ k - x)) (length-nat2bv n v) (bv2nat-nat2bv n v ∙ mod-eq_of_lt h)

-- ---- unsigned

pub bvudiv_by : (s t : Bits) → 0 < bv2nat t → bv.bvudiv s t ≡ nat2bv (length s) (bv2nat s / bv2nat t)
unfolding bv.bvudiv
bvudiv_by s t h = rw (ne_eqb (bv2nat t) 0 (λ e. omega arith))

pub bvurem_by : (s t : Bits) → 0 < bv2nat t → bv.bvurem s t ≡ nat2bv (length s) (bv2nat s % bv2nat t)
unfolding bv.bvurem
bvurem_by s t h = rw (ne_eqb (bv2nat t) 0 (λ e. omega arith))

pub bv2nat-bvudiv : (s t : Bits) → 0 < bv2nat t → bv2nat (bv.bvudiv s t) ≡ bv2nat s / bv2nat t
bv2nat-bvudiv s t h =
    ap bv2nat (bvudiv_by s t h)
    ∙ bv2nat-nat2bv (length s) (bv2nat s / bv2nat t)
    ∙ mod-eq_of_lt (lt_of_le_of_lt (div-le_self (bv2nat s) (bv2nat t)) (bv2nat_lt s))

pub bv2nat-bvurem : (s t : Bits) → 0 < bv2nat t → bv2nat (bv.bvurem s t) ≡ bv2nat s % bv2nat t
bv2nat-bvurem s t h =
    ap bv2nat (bvurem_by s t h)
    ∙ bv2nat-nat2bv (length s) (bv2nat s % bv2nat t)
    ∙ mod-eq_of_lt (lt_of_le_of_lt (mod-le (bv2nat s) (bv2nat t)) (bv2nat_lt s))

-- By zero.
pub bvudiv-zero : (s t : Bits) → bv2nat t ≡ 0 → bv2nat (bv.bvudiv s t) ≡ 2 ^ length s - 1
unfolding bv.bvudiv bv2nat
bvudiv-zero s t e = rw (eq-eqb (bv2nat t) 0 e) (ones s)
  where
    ones : (r : Bits) → bv2nat (map (λ b. true) r) ≡ 2 ^ length r - 1
    ones [] = refl
    ones (b ∷ r) = let h = ones r in omega (arith, pow-suc 2 (length r), pow_pos (length r))

pub bvurem-zero : (s t : Bits) → bv2nat t ≡ 0 → bv.bvurem s t ≡ s
unfolding bv.bvurem
bvurem-zero s t e = rw (eq-eqb (bv2nat t) 0 e)

-- ---- the signs

-- A signed number without its sign, as a vector and as a number.
abbrev pub unsigned : Bits → Bits
unsigned s = cond (bv.msb s) (bv.bvneg s) s

abbrev pub size : Bits → ℕ
size s = cond (bv.msb s) (2 ^ length s - bv2nat s) (bv2nat s)

-- Of four vectors, one for each two signs.
chosen : (q : Bool → Bool → Bits) (s t : Bits)
    → bv.by_signs s t (q false false) (q true false) (q false true) (q true true) ≡ q (bv.msb s) (bv.msb t)
chosen q s t = go (bv.msb s) (bv.msb t)
  where
    go : (a b : Bool)
        → cond (not a && not b) (q false false)
        (cond (a && not b) (q true false) (cond (not a && b) (q false true) (q true true)))
        ≡ q a b
    go true true = refl
    go true false = refl
    go false true = refl
    go false false = refl

-- The quotient is negated where the signs differ, the remainder where the first operand is negative.
pub bvsdiv_signs : (s t : Bits)
    → bv.bvsdiv s t
    ≡ cond (bv.same (bv.msb s) (bv.msb t)) (bv.bvudiv (unsigned s) (unsigned t))
    (bv.bvneg (bv.bvudiv (unsigned s) (unsigned t)))
unfolding bv.bvsdiv
bvsdiv_signs s t = chosen (λ a b. cond (bv.same a b) (quotient a b) (bv.bvneg (quotient a b))) s t
  where
    quotient : Bool → Bool → Bits
    quotient a b = bv.bvudiv (cond a (bv.bvneg s) s) (cond b (bv.bvneg t) t)

pub bvsrem_signs : (s t : Bits)
    → bv.bvsrem s t
    ≡ cond (bv.msb s) (bv.bvneg (bv.bvurem (unsigned s) (unsigned t))) (bv.bvurem (unsigned s) (unsigned t))
unfolding bv.bvsrem
bvsrem_signs s t = chosen (λ a b. cond a (bv.bvneg (remainder a b)) (remainder a b)) s t
  where
    remainder : Bool → Bool → Bits
    remainder a b = bv.bvurem (cond a (bv.bvneg s) s) (cond b (bv.bvneg t) t)

-- ---- the sizes

-- A negative number has its top bit.
negative : (s : Bits) → bv.msb s ≡ true → 0 < bv2nat s
negative s e = go (bv2nat s) refl
  where
    go : (v : ℕ) → bv2nat s ≡ v → 0 < v
    go zero z =
        absurd (false≢true
        (sym (bit_at (length s - 1) s ∙ ap odd (ap (λ (v : ℕ). v / 2 ^ (length s - 1)) z ∙ zero-div _)) ∙ e))
    go (suc v) z = omega arith

pub length_unsigned : (s : Bits) → length (unsigned s) ≡ length s
length_unsigned s = length-cond (bv.msb s) (bv.bvneg s) s (length-bvneg s) refl

pub bv2nat_unsigned : (s : Bits) → bv2nat (unsigned s) ≡ size s
bv2nat_unsigned s = go (bv.msb s) refl
  where
    go : (b : Bool) → bv.msb s ≡ b
        → bv2nat (cond b (bv.bvneg s) s) ≡ cond b (2 ^ length s - bv2nat s) (bv2nat s)
    go true e = bv2nat-bvneg s (negative s e)
    go false e = refl

pub size-lt : (s : Bits) → size s < 2 ^ length s
size-lt s = rw (bv2nat_unsigned s, length_unsigned s) at (bv2nat_lt (unsigned s))

pub size_pos : (s : Bits) → 0 < bv2nat s → 0 < size s
size_pos s h = go (bv.msb s)
  where
    go : (b : Bool) → 0 < cond b (2 ^ length s - bv2nat s) (bv2nat s)
    go true = omega (arith, bv2nat_lt s)
    go false = h

-- ---- signed

either : (o : Bool) (n v w : ℕ) (p q : Bits) → p ≡ nat2bv n v → q ≡ nat2bv n w → cond o p q ≡ nat2bv n (cond o v w)
either true n v w p q e f = e
either false n v w p q e f = f

module _ (s t : Bits) (h : 0 < bv2nat t) where
  divisor : 0 < bv2nat (unsigned t)
  divisor = rw (bv2nat_unsigned t) (size_pos t h)

  quotient : bv.bvudiv (unsigned s) (unsigned t) ≡ nat2bv (length s) (size s / size t)
  quotient =
      bvudiv_by (unsigned s) (unsigned t) divisor ∙ rw (length_unsigned s, bv2nat_unsigned s, bv2nat_unsigned t)

  remainder : bv.bvurem (unsigned s) (unsigned t) ≡ nat2bv (length s) (size s % size t)
  remainder =
      bvurem_by (unsigned s) (unsigned t) divisor ∙ rw (length_unsigned s, bv2nat_unsigned s, bv2nat_unsigned t)

pub bvsdiv_by : (s t : Bits) → 0 < bv2nat t
    → bv.bvsdiv s t
    ≡ nat2bv (length s) (cond (bv.same (bv.msb s) (bv.msb t)) (size s / size t) (2 ^ length s - size s / size t))
bvsdiv_by s t h =
    bvsdiv_signs s t
    ∙ either (bv.same (bv.msb s) (bv.msb t)) _ _ _ _ _ (quotient s t h)
    (ap bv.bvneg (quotient s t h)
    ∙ bvneg-number (length s) (size s / size t) (lt_of_le_of_lt (div-le_self (size s) (size t)) (size-lt s)))

pub bvsrem_by : (s t : Bits) → 0 < bv2nat t
    → bv.bvsrem s t ≡ nat2bv (length s) (cond (bv.msb s) (2 ^ length s - size s % size t) (size s % size t))
bvsrem_by s t h =
    bvsrem_signs s t
    ∙ either (bv.msb s) _ _ _ _ _
    (ap bv.bvneg (remainder s t h)
    ∙ bvneg-number (length s) (size s % size t) (lt_of_le_of_lt (mod-le (size s) (size t)) (size-lt s)))
    (remainder s t h)
