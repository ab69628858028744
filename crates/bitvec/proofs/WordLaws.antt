-- Laws of the words: a claim about a width by cases, and what a function gives for vectors that words hold.
-- Assumes nothing.
use Rattle.std.proofs.Common.{◌≡◌, ℕ, zero, suc, ◌+◌, ◌%◌, ◌^◌, ◌<◌, ◌≤◌, Bool, true, false, cond, ◌&&◌, leb, length, sym, refl, ap, ◌∙◌, ap₂, arith, lt-ltb, le-leb, leb-true}
use mathlib.Core.Bool.{and-eq-true_iff}
use native.Mathlib.Nat.{mod-one}
use borrow.Author.Tests.{lt-leb}
use Rattle.bitvec.specs.Bits.{Bits, bv2nat, nat2bv}
use Rattle.bitvec.specs.Ops as bv
use Rattle.bitvec.specs.Words.{is_width, at_width, holds_at, concat_at, extract_at}
use Rattle.bitvec.proofs.Laws.{nat2bv_of, bv2nat-nat2bv}

-- ---- widths

pub is-width : (w : ℕ) → 0 < w → w ≤ 64 → is_width w ≡ true
unfolding is_width
is-width w l u = ap₂ ◌&&◌ (le-leb 1 w l) (le-leb w 64 u)

pub too_narrow : (w : ℕ) → w < 1 → is_width w ≡ false
unfolding is_width
too_narrow w h = ap (λ (b : Bool). b && leb w 64) (lt-leb 1 w h)

pub too_wide : (w : ℕ) → 64 < w → is_width w ≡ false
unfolding is_width
too_wide w h = ap₂ ◌&&◌ (le-leb 1 w (omega arith)) (lt-leb w 64 h)

-- A claim about the test of a width: it is shown for a width that a word holds, and for the answer 0.
pub by_width : (P : Bool → Type 0) (w : ℕ) → (0 < w → w ≤ 64 → P true) → P false → P (is_width w)
unfolding is_width
by_width P w inside outside = go (is_width w) refl
  where
    go : (b : Bool) → is_width w ≡ b → P b
    go true e =
        let both = (and-eq-true_iff (leb 1 w) (leb w 64)).0 e in
        inside (leb-true 1 w both.0) (leb-true w 64 both.1)
    go false e = outside

pub at_width_lem : (w : ℕ) (s : Bits) → 0 < w → w ≤ 64 → at_width w s ≡ bv2nat s
unfolding at_width
at_width_lem w s l u = rw (is-width w l u)

pub at_none : (w : ℕ) (s : Bits) → is_width w ≡ false → at_width w s ≡ 0
unfolding at_width
at_none w s e = rw e

pub holds_width : (w : ℕ) (b : Bool) → 0 < w → w ≤ 64 → holds_at w b ≡ b
unfolding holds_at
holds_width w b l u = rw (is-width w l u)

pub holds_none : (w : ℕ) (b : Bool) → is_width w ≡ false → holds_at w b ≡ false
unfolding holds_at
holds_none w b e = rw e

-- Two vectors that have one number at each width that a word holds.
pub at_same : (w : ℕ) (s t : Bits) → (0 < w → w ≤ 64 → bv2nat s ≡ bv2nat t) → at_width w s ≡ at_width w t
unfolding at_width
at_same w s t h = by_width (λ (b : Bool). cond b (bv2nat s) 0 ≡ cond b (bv2nat t) 0) w h refl

pub holds_same : (w : ℕ) (a b : Bool) → (0 < w → w ≤ 64 → a ≡ b) → holds_at w a ≡ holds_at w b
unfolding holds_at
holds_same w a b h = by_width (λ (o : Bool). (o && a) ≡ (o && b)) w h refl

pub reduced : (w x : ℕ) → w ≤ 64 → at_width w (nat2bv w x) ≡ x % 2 ^ w
reduced zero x h = at_none 0 (nat2bv 0 x) (too_narrow 0 (omega arith)) ∙ sym (mod-one x)
reduced (suc w) x h = at_width_lem (suc w) (nat2bv (suc w) x) (omega arith) h ∙ bv2nat-nat2bv (suc w) x

-- ---- vectors held as words: what a function promises of their numbers is the operation itself

pub nat2bv-at : (w : ℕ) (s : Bits) → 0 < w → w ≤ 64 → length s ≡ w → nat2bv w (at_width w s) ≡ s
nat2bv-at w s l u e = ap (nat2bv w) (at_width_lem w s l u) ∙ nat2bv_of w s e

module _ (w : ℕ) (s : Bits) (l : 0 < w) (u : w ≤ 64) (p : length s ≡ w) where
  pub unary_on : (op : Bits → Bits) → at_width w (op (nat2bv w (bv2nat s))) ≡ bv2nat (op s)
  unary_on op = at_width_lem w (op (nat2bv w (bv2nat s))) l u ∙ ap (λ (x : Bits). bv2nat (op x)) (nat2bv_of w s p)

  module _ (t : Bits) (q : length t ≡ w) where
    pub binary_on : (op : Bits → Bits → Bits)
        → at_width w (op (nat2bv w (bv2nat s)) (nat2bv w (bv2nat t))) ≡ bv2nat (op s t)
    binary_on op =
        at_width_lem w (op (nat2bv w (bv2nat s)) (nat2bv w (bv2nat t))) l u
        ∙ ap₂ (λ (x y : Bits). bv2nat (op x y)) (nat2bv_of w s p) (nat2bv_of w t q)

    pub test_on : (op : Bits → Bits → Bool) → holds_at w (op (nat2bv w (bv2nat s)) (nat2bv w (bv2nat t))) ≡ op s t
    test_on op =
        holds_width w (op (nat2bv w (bv2nat s)) (nat2bv w (bv2nat t))) l u
        ∙ ap₂ op (nat2bv_of w s p) (nat2bv_of w t q)

pub concat_on : (m n : ℕ) (s t : Bits) → 0 < m → 0 < n → m + n ≤ 64 → length s ≡ m → length t ≡ n
    → concat_at m (bv2nat s) n (bv2nat t) ≡ bv2nat (bv.concat s t)
unfolding concat_at
concat_on m n s t l k u p q =
    rw (le-leb 1 m l, le-leb 1 n k, le-leb (m + n) 64 u)
    (ap₂ (λ (x y : Bits). bv2nat (bv.concat x y)) (nat2bv_of m s p) (nat2bv_of n t q))

pub extract_on : (w i j : ℕ) (s : Bits) → w ≤ 64 → i < w → j ≤ i → length s ≡ w
    → extract_at w i j (bv2nat s) ≡ bv2nat (bv.extract i j s)
unfolding extract_at
extract_on w i j s u h l p =
    rw (le-leb w 64 u, lt-ltb i w h, le-leb j i l) (ap (λ (x : Bits). bv2nat (bv.extract i j x)) (nat2bv_of w s p))
