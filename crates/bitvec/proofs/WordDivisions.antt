-- Negation and the divisions on words, as arithmetic on the numbers they are given, against their definitions. Assumes
-- nothing.
use Rattle.std.proofs.Common.{◌≡◌, ℕ, ◌+◌, ◌-◌, ◌/◌, ◌%◌, ◌^◌, ◌<◌, ◌≤◌, Bool, cond, length, sym, ap, ◌∙◌, ap₂, arith}
use mathlib.Core.Bool.{beq}
use native.Mathlib.Nat.{mod-add-mod, sub-zero, zero-mod}
use Rattle.bitvec.specs.Bits.{Bits, bv2nat, nat2bv}
use Rattle.bitvec.specs.Ops as bv
use Rattle.bitvec.specs.Words.{at_width, holds_at}
use Rattle.bitvec.proofs.Laws.{length-nat2bv, bv2nat-nat2bv, length-bvneg, length-bvudiv, length-bvurem}
use Rattle.bitvec.proofs.Numbers.{bv2nat-bvnot, bvnot-total}
use Rattle.bitvec.proofs.Divisions.{bv2nat-bvudiv, bv2nat-bvurem, bvudiv-zero, bvurem-zero}
use Rattle.bitvec.proofs.Divisions.{unsigned, length_unsigned, bvsdiv_signs, bvsrem_signs}
use Rattle.bitvec.proofs.WordLaws.{by_width, at_width_lem, at_same, holds_width, nat2bv-at}
use Rattle.bitvec.proofs.Lemmas.{word_bvnot, agree}

-- ---- negation

-- The complement and one more.
pub word_bvneg : (w s : ℕ) → w ≤ 64 → s < 2 ^ 64 → bv2nat (bv.bvneg (nat2bv w s)) ≡ (2 ^ 64 - 1 - s + 1) % 2 ^ w
word_bvneg w s u h =
    bv2nat-nat2bv (length S) (2 ^ length S - bv2nat S)
    ∙ ap (λ (v : ℕ). v % 2 ^ length S) (omega (arith, bvnot-total S))
    ∙ ap₂ (λ (n v : ℕ). (v + 1) % 2 ^ n) (length-nat2bv w s) (word_bvnot w s u h)
    ∙ mod-add-mod (2 ^ 64 - 1 - s) (2 ^ w) 1
  where
    S : Bits
    S = nat2bv w s

-- A word n stands for the vector r.
stands : (w n : ℕ) (r : Bits) → n ≡ at_width w r → length r ≡ w → 0 < w → w ≤ 64 → nat2bv w n ≡ r
stands w n r e p l u = ap (nat2bv w) e ∙ nat2bv-at w r l u p

-- m is the sign, n the word negated, z the one that the sign chooses.
pub word_size : (w s n z : ℕ) (m : Bool)
    → m ≡ holds_at w (bv.msb (nat2bv w s)) → n ≡ at_width w (bv.bvneg (nat2bv w s))
    → z ≡ at_width w (cond m (nat2bv w n) (nat2bv w s)) → z ≡ at_width w (unsigned (nat2bv w s))
word_size w s n z m e f g =
    g
    ∙ at_same w (cond m (nat2bv w n) S) (unsigned S)
    (λ l u. rw (
      e ∙ holds_width w (bv.msb S) l u,
      stands w n (bv.bvneg S) f (length-bvneg S ∙ length-nat2bv w s) l u,
    ))
  where
    S : Bits
    S = nat2bv w s

-- ---- divisions

module _ (w s t : ℕ) where
  abbrev S : Bits
  S = nat2bv w s

  abbrev T : Bits
  T = nat2bv w t

  pub word_bvudiv : 0 < at_width w T → at_width w S / at_width w T ≡ at_width w (bv.bvudiv S T)
  unfolding at_width
  word_bvudiv =
      by_width
      (λ (b : Bool). 0 < cond b (bv2nat T) 0
      → cond b (bv2nat S) 0 / cond b (bv2nat T) 0 ≡ cond b (bv2nat (bv.bvudiv S T)) 0)
      w (λ _ _ h. sym (bv2nat-bvudiv S T h)) (λ h. absurd (omega arith))

  pub word_bvurem : 0 < at_width w T → at_width w S % at_width w T ≡ at_width w (bv.bvurem S T)
  unfolding at_width
  word_bvurem =
      by_width
      (λ (b : Bool). 0 < cond b (bv2nat T) 0
      → cond b (bv2nat S) 0 % cond b (bv2nat T) 0 ≡ cond b (bv2nat (bv.bvurem S T)) 0)
      w (λ _ _ h. sym (bv2nat-bvurem S T h)) (λ h. absurd (omega arith))

  -- z is the answer at zero.
  pub word_bvudiv-zero : (z : ℕ) → at_width w T ≡ 0 → z ≡ at_width w (bv.bvnot (nat2bv w 0))
      → z ≡ at_width w (bv.bvudiv S T)
  word_bvudiv-zero z e h =
      h
      ∙ at_same w (bv.bvnot (nat2bv w 0)) (bv.bvudiv S T)
      (λ l u. ones ∙ sym (bvudiv-zero S T (sym (at_width_lem w T l u) ∙ e) ∙ ap (λ (n : ℕ). 2 ^ n - 1) (length-nat2bv w s)))
    where
      ones : bv2nat (bv.bvnot (nat2bv w 0)) ≡ 2 ^ w - 1
      ones =
          rw (bv2nat-bvnot (nat2bv w 0), length-nat2bv w 0, bv2nat-nat2bv w 0, zero-mod (2 ^ w)) (sub-zero (2 ^ w - 1))

  pub word_bvurem-zero : (z : ℕ) → at_width w T ≡ 0 → z ≡ at_width w S → z ≡ at_width w (bv.bvurem S T)
  word_bvurem-zero z e h =
      h
      ∙ at_same w S (bv.bvurem S T) (λ l u. ap bv2nat (sym (bvurem-zero S T (sym (at_width_lem w T l u) ∙ e))))

  -- x and y are the sizes, q what op makes of them, and g is q negated.
  module _ (op : Bits → Bits → Bits) (width : (a b : Bits) → length (op a b) ≡ length a) (x y q g : ℕ)
      (first : x ≡ at_width w (unsigned S)) (second : y ≡ at_width w (unsigned T))
      (made : q ≡ at_width w (op (nat2bv w x) (nat2bv w y))) (negated : g ≡ at_width w (bv.bvneg (nat2bv w q))) where
    of_sizes : 0 < w → w ≤ 64 → nat2bv w q ≡ op (unsigned S) (unsigned T)
    of_sizes l u =
        stands w q (op (nat2bv w x) (nat2bv w y)) made (width (nat2bv w x) (nat2bv w y) ∙ length-nat2bv w x) l u
        ∙ ap₂ op (stands w x (unsigned S) first (length_unsigned S ∙ length-nat2bv w s) l u)
        (stands w y (unsigned T) second (length_unsigned T ∙ length-nat2bv w t) l u)

    of_sizes_negated : 0 < w → w ≤ 64 → nat2bv w g ≡ bv.bvneg (op (unsigned S) (unsigned T))
    of_sizes_negated l u =
        stands w g (bv.bvneg (nat2bv w q)) negated (length-bvneg (nat2bv w q) ∙ length-nat2bv w q) l u
        ∙ ap bv.bvneg (of_sizes l u)

  -- m and n are the signs, z the one that they choose.
  pub word_bvsdiv : (x y q g z : ℕ) (m n : Bool)
      → x ≡ at_width w (unsigned S) → y ≡ at_width w (unsigned T)
      → q ≡ at_width w (bv.bvudiv (nat2bv w x) (nat2bv w y)) → g ≡ at_width w (bv.bvneg (nat2bv w q))
      → m ≡ holds_at w (bv.msb S) → n ≡ holds_at w (bv.msb T)
      → z ≡ at_width w (cond (beq m n) (nat2bv w q) (nat2bv w g)) → z ≡ at_width w (bv.bvsdiv S T)
  word_bvsdiv x y q g z m n a b c d e f h =
      h
      ∙ at_same w (cond (beq m n) (nat2bv w q) (nat2bv w g)) (bv.bvsdiv S T)
      (λ l u. rw (
        agree w s t m n e f l u,
        of_sizes bv.bvudiv length-bvudiv x y q g a b c d l u,
        of_sizes_negated bv.bvudiv length-bvudiv x y q g a b c d l u,
        bvsdiv_signs S T,
      ))

  pub word_bvsrem : (x y q g z : ℕ) (m : Bool)
      → x ≡ at_width w (unsigned S) → y ≡ at_width w (unsigned T)
      → q ≡ at_width w (bv.bvurem (nat2bv w x) (nat2bv w y)) → g ≡ at_width w (bv.bvneg (nat2bv w q))
      → m ≡ holds_at w (bv.msb S)
      → z ≡ at_width w (cond m (nat2bv w g) (nat2bv w q)) → z ≡ at_width w (bv.bvsrem S T)
  word_bvsrem x y q g z m a b c d e h =
      h
      ∙ at_same w (cond m (nat2bv w g) (nat2bv w q)) (bv.bvsrem S T)
      (λ l u. rw (
        e ∙ holds_width w (bv.msb S) l u,
        of_sizes bv.bvurem length-bvurem x y q g a b c d l u,
        of_sizes_negated bv.bvurem length-bvurem x y q g a b c d l u,
        bvsrem_signs S T,
      ))
