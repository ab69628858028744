-- Each operation on words, as arithmetic on the numbers it is given, against its definition. Assumes nothing.
use Rattle.std.proofs.Common.{◌≡◌, ℕ, suc, ◌+◌, ◌-◌, ◌*◌, ◌/◌, ◌%◌, ◌^◌, ◌<◌, ◌≤◌, Bool, true, false, cond, ◌&&◌, eqb, ltb, length, get_or, sym, refl, ap, ◌∙◌, subst, ap₂, mod-lt, mod-eq_of_lt, sub-add_cancel, arith, pow_pos, pow-add, shl_exact}
use mathlib.Core.Bool.{beq}
use native.Mathlib.Nat.{add-mod}
use lib.Bits.{bit_and, bit_or, bit_xor, and_mod, or_mod, xor_mod, or_shifted}
use Rattle.bitvec.specs.Bits.{Bits, bv2nat, nat2bv, odd, bit}
use Rattle.bitvec.specs.Ops as bv
use Rattle.bitvec.specs.Words.{at_width, holds_at}
use Rattle.bitvec.proofs.Laws.{length-nat2bv, bv2nat-nat2bv, length-bvnot, length-bvlshr}
use Rattle.bitvec.proofs.Numbers.{bv2nat-bvand, bv2nat-bvor, bv2nat-bvxor, bv2nat-bvnot, bv2nat-bvadd}
use Rattle.bitvec.proofs.Numbers.{bv2nat-bvmul, equal-eqb, bit_at, bv2nat-concat, bv2nat-extract, bvslt_signs}
use Rattle.bitvec.proofs.Shifts.{bv2nat-bvshl, bv2nat-bvlshr, bvshl_out, bvlshr_out}
use Rattle.bitvec.proofs.WordLaws.{by_width, at_width_lem, at_same, holds_width, holds_same, nat2bv-at, reduced}
use Rattle.bitvec.proofs.Arithmetic.{mul_mod_first, mul_mod, complement_mod, within, narrower}

-- ---- reduction

-- A vector whose number is x modulo 2 ^ w is what x is reduced to, also where x has been cut to 64 bits before.
pub exact : (w x : ℕ) (s : Bits) → (0 < w → w ≤ 64 → bv2nat s ≡ x % 2 ^ w) → at_width w (nat2bv w x) ≡ at_width w s
exact w x s e = at_same w (nat2bv w x) s (λ l u. bv2nat-nat2bv w x ∙ sym (e l u))

pub wrapped : (w x q : ℕ) (s : Bits) → q ≡ x % 2 ^ 64 → (0 < w → w ≤ 64 → bv2nat s ≡ x % 2 ^ w)
    → at_width w (nat2bv w q) ≡ at_width w s
wrapped w x q s p e = exact w q s (λ l u. e l u ∙ sym (ap (λ (v : ℕ). v % 2 ^ w) p ∙ narrower w x u))

-- A word is its own reduction to 64 bits.
pub whole : (w x : ℕ) → w ≡ 64 → x < 2 ^ 64 → x ≡ at_width w (nat2bv w x)
whole w x e h = sym (reduced w x (omega arith) ∙ ap (λ (n : ℕ). x % 2 ^ n) e ∙ mod-eq_of_lt h)

-- ---- one operand

pub word_bvnot : (w s : ℕ) → w ≤ 64 → s < 2 ^ 64 → bv2nat (bv.bvnot (nat2bv w s)) ≡ (2 ^ 64 - 1 - s) % 2 ^ w
word_bvnot w s u h =
    bv2nat-bvnot (nat2bv w s)
    ∙ ap₂ (λ (n v : ℕ). 2 ^ n - 1 - v) (length-nat2bv w s) (bv2nat-nat2bv w s)
    ∙ sym (complement_mod (2 ^ w) (2 ^ (64 - w)) s (pow_pos w) (subst (λ (n : ℕ). s < n) blocks h))
    ∙ ap (λ (n : ℕ). (n - 1 - s) % 2 ^ w) (sym blocks)
  where
    blocks : 2 ^ 64 ≡ 2 ^ (64 - w) * 2 ^ w
    blocks = ap (λ (k : ℕ). 2 ^ k) (sym (sub-add_cancel u)) ∙ pow-add 2 (64 - w) w

pub word_msb : (w s : ℕ) → 0 < w → bv.msb (nat2bv w s) ≡ odd (s / 2 ^ (w - 1))
word_msb w s l =
    ap (λ (n : ℕ). get_or (nat2bv w s) (n - 1) false) (length-nat2bv w s)
    ∙ bit_at (w - 1) (nat2bv w s)
    ∙ ap (λ (v : ℕ). odd (v / 2 ^ (w - 1))) (bv2nat-nat2bv w s)
    ∙ ap (λ (v : ℕ). eqb v 1) (within w (w - 1) 1 s (omega arith))

pub word_extract : (w i j s : ℕ) → w ≤ 64 → i < w → j ≤ i
    → at_width (i - j + 1) (nat2bv (i - j + 1) (s / 2 ^ j)) ≡ bv2nat (bv.extract i j (nat2bv w s))
word_extract w i j s u h l =
    reduced (i - j + 1) (s / 2 ^ j) (omega arith)
    ∙ ap (λ (n : ℕ). s / 2 ^ j % 2 ^ n) (let e : i - j + 1 ≡ suc i - j = omega arith in e)
    ∙ sym (within w j (suc i - j) s (omega arith))
    ∙ ap (λ (v : ℕ). v / 2 ^ j % 2 ^ (suc i - j)) (sym (bv2nat-nat2bv w s))
    ∙ sym (bv2nat-extract i j (nat2bv w s))

-- ---- two operands

-- The high part, shifted, and the low part have no bit in common.
pub word_concat : (m s n t : ℕ) → 0 < m → 0 < n → m + n ≤ 64
    → bit_or (at_width m (nat2bv m s) * 2 ^ n % 2 ^ 64) (at_width n (nat2bv n t))
    ≡ bv2nat (bv.concat (nat2bv m s) (nat2bv n t))
word_concat m s n t p q h =
    ap₂ (λ (x y : ℕ). bit_or (x * 2 ^ n % 2 ^ 64) y) (reduced m s (omega arith)) (reduced n t (omega arith))
    ∙ ap (λ (x : ℕ). bit_or x (t % 2 ^ n)) (shl_exact m n 64 (mod-lt s (pow_pos m)) h)
    ∙ or_shifted (s % 2 ^ m) n (t % 2 ^ n) (mod-lt t (pow_pos n))
    ∙ sym number
  where
    number : bv2nat (bv.concat (nat2bv m s) (nat2bv n t)) ≡ s % 2 ^ m * 2 ^ n + t % 2 ^ n
    number = rw (bv2nat-concat (nat2bv m s) (nat2bv n t), length-nat2bv n t, bv2nat-nat2bv m s, bv2nat-nat2bv n t)

-- The operands as vectors of one width are S and T.
module _ (w s t : ℕ) where
  abbrev S : Bits
  S = nat2bv w s

  abbrev T : Bits
  T = nat2bv w t

  same_width : length S ≡ length T
  same_width = length-nat2bv w s ∙ sym (length-nat2bv w t)

  -- Bit by bit, where the operation on numbers commutes with reduction.
  by_bits : (op : Bits → Bits → Bits) (number : ℕ → ℕ → ℕ)
      → ((x y : Bits) → length x ≡ length y → bv2nat (op x y) ≡ number (bv2nat x) (bv2nat y))
      → number s t % 2 ^ w ≡ number (s % 2 ^ w) (t % 2 ^ w)
      → bv2nat (op S T) ≡ number s t % 2 ^ w
  by_bits op number law commutes =
      law S T same_width ∙ ap₂ number (bv2nat-nat2bv w s) (bv2nat-nat2bv w t) ∙ sym commutes

  pub word_bvand : bv2nat (bv.bvand S T) ≡ bit_and s t % 2 ^ w
  word_bvand = by_bits bv.bvand bit_and bv2nat-bvand (and_mod s t w)

  pub word_bvor : bv2nat (bv.bvor S T) ≡ bit_or s t % 2 ^ w
  word_bvor = by_bits bv.bvor bit_or bv2nat-bvor (or_mod s t w)

  pub word_bvxor : bv2nat (bv.bvxor S T) ≡ bit_xor s t % 2 ^ w
  word_bvxor = by_bits bv.bvxor bit_xor bv2nat-bvxor (xor_mod s t w)

  pub word_bvadd : bv2nat (bv.bvadd S T) ≡ (s + t) % 2 ^ w
  word_bvadd =
      rw (bv2nat-bvadd S T, length-nat2bv w s, bv2nat-nat2bv w s, bv2nat-nat2bv w t) (sym (add-mod s t (2 ^ w)))

  pub word_bvmul : bv2nat (bv.bvmul S T) ≡ s * t % 2 ^ w
  word_bvmul =
      rw (bv2nat-bvmul S T, length-nat2bv w s, bv2nat-nat2bv w s, bv2nat-nat2bv w t) (sym (mul_mod s t (2 ^ w)))

  pub word_equal : 0 < w → w ≤ 64 → eqb (at_width w S) (at_width w T) ≡ holds_at w (bv.equal S T)
  word_equal l u =
      ap₂ eqb (at_width_lem w S l u) (at_width_lem w T l u)
      ∙ sym (holds_width w (bv.equal S T) l u ∙ equal-eqb S T same_width)

  pub word_bvcomp : bit (holds_at w (bv.equal S T)) ≡ at_width w (bv.bvcomp S T)
  unfolding at_width holds_at bv2nat
  word_bvcomp =
      by_width (λ (b : Bool). bit (b && bv.equal S T) ≡ cond b (bit (bv.equal S T) + 2 * 0) 0) w (λ _ _. omega arith)
      refl

  pub word_bvult : ltb (at_width w S) (at_width w T) ≡ holds_at w (bv.bvult S T)
  unfolding at_width holds_at
  word_bvult =
      by_width (λ (b : Bool). ltb (cond b (bv2nat S) 0) (cond b (bv2nat T) 0) ≡ (b && bv.bvult S T)) w (λ _ _. refl)
      refl

  -- m and n are the signs.
  pub agree : (m n : Bool) → m ≡ holds_at w (bv.msb S) → n ≡ holds_at w (bv.msb T) → 0 < w → w ≤ 64
      → beq m n ≡ bv.same (bv.msb S) (bv.msb T)
  agree m n e f l u =
      ap₂ beq (e ∙ holds_width w (bv.msb S) l u) (f ∙ holds_width w (bv.msb T) l u)
      ∙ beq_same (bv.msb S) (bv.msb T)
    where
      beq_same : (p q : Bool) → beq p q ≡ bv.same p q
      beq_same true true = refl
      beq_same true false = refl
      beq_same false true = refl
      beq_same false false = refl

  -- o is whether they agree.
  pub word_bvslt : (m n o : Bool) → m ≡ holds_at w (bv.msb S) → n ≡ holds_at w (bv.msb T) → beq m n ≡ o
      → holds_at w (cond o (bv.bvult S T) (bv.msb S)) ≡ holds_at w (bv.bvslt S T)
  word_bvslt m n o e f g =
      holds_same w (cond o (bv.bvult S T) (bv.msb S)) (bv.bvslt S T)
      (λ l u. ap (λ (b : Bool). cond b (bv.bvult S T) (bv.msb S)) (sym g ∙ agree m n e f l u) ∙ sym (bvslt_signs S T))

  pub word_bvlshr : at_width w S / 2 ^ at_width w T ≡ at_width w (bv.bvlshr S T)
  unfolding at_width
  word_bvlshr =
      by_width (λ (b : Bool). cond b (bv2nat S) 0 / 2 ^ cond b (bv2nat T) 0 ≡ cond b (bv2nat (bv.bvlshr S T)) 0) w
      (λ _ _. sym (bv2nat-bvlshr S T)) refl

  -- k is the amount.
  pub word_bvshl : (k : ℕ) → k ≡ at_width w T → at_width w (nat2bv w (s * 2 ^ k % 2 ^ 64)) ≡ at_width w (bv.bvshl S T)
  word_bvshl k e =
      wrapped w (s * 2 ^ k) (s * 2 ^ k % 2 ^ 64) (bv.bvshl S T) refl
      (λ _ u. number ∙ ap (λ (n : ℕ). s * 2 ^ n % 2 ^ w) (sym (e ∙ reduced w t u)))
    where
      number : bv2nat (bv.bvshl S T) ≡ s * 2 ^ (t % 2 ^ w) % 2 ^ w
      number =
          rw (bv2nat-bvshl S T, length-nat2bv w s, bv2nat-nat2bv w s, bv2nat-nat2bv w t)
          (sym (mul_mod_first s (2 ^ (t % 2 ^ w)) (2 ^ w)))

  -- An amount at or above 64 is at or above the width.
  out : (r : Bits) → (length S ≤ bv2nat T → bv2nat r ≡ 0) → 64 ≤ at_width w T → 0 ≡ at_width w r
  unfolding at_width
  out r none =
      by_width (λ (b : Bool). 64 ≤ cond b (bv2nat T) 0 → 0 ≡ cond b (bv2nat r) 0) w
      (λ _ u k. sym (none (omega (arith, length-nat2bv w s)))) (λ _. refl)

  pub word_bvshl_out : 64 ≤ at_width w T → 0 ≡ at_width w (bv.bvshl S T)
  word_bvshl_out = out (bv.bvshl S T) (bvshl_out S T)

  pub word_bvlshr_out : 64 ≤ at_width w T → 0 ≡ at_width w (bv.bvlshr S T)
  word_bvlshr_out = out (bv.bvlshr S T) (bvlshr_out S T)

  -- n is the complement of s, q that complement shifted.
  pub shifted_complement : (n q : ℕ) → n ≡ at_width w (bv.bvnot S) → q ≡ at_width w (bv.bvlshr (nat2bv w n) T)
      → at_width w (bv.bvnot (nat2bv w q)) ≡ at_width w (bv.bvnot (bv.bvlshr (bv.bvnot S) T))
  shifted_complement n q e f =
      at_same w (bv.bvnot (nat2bv w q)) (bv.bvnot (bv.bvlshr (bv.bvnot S) T))
      (λ l u. ap (λ (x : Bits). bv2nat (bv.bvnot x)) (shifted l u))
    where
      shifted : 0 < w → w ≤ 64 → nat2bv w q ≡ bv.bvlshr (bv.bvnot S) T
      shifted l u =
          ap (nat2bv w) f
          ∙ nat2bv-at w (bv.bvlshr (nat2bv w n) T) l u (length-bvlshr (nat2bv w n) T ∙ length-nat2bv w n)
          ∙ ap (λ (x : Bits). bv.bvlshr x T)
          (ap (nat2bv w) e ∙ nat2bv-at w (bv.bvnot S) l u (length-bvnot S ∙ length-nat2bv w s))

  -- m is the sign.
  pub word_bvashr : (m : Bool) → m ≡ holds_at w (bv.msb S)
      → at_width w (cond m (bv.bvnot (bv.bvlshr (bv.bvnot S) T)) (bv.bvlshr S T)) ≡ at_width w (bv.bvashr S T)
  word_bvashr m e =
      at_same w (cond m negative (bv.bvlshr S T)) (bv.bvashr S T)
      (λ l u. ap (λ (b : Bool). bv2nat (cond b negative (bv.bvlshr S T))) (e ∙ holds_width w (bv.msb S) l u))
    where
      negative : Bits
      negative = bv.bvnot (bv.bvlshr (bv.bvnot S) T)
