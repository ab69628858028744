-- The shifts show their rules: QF_BV's three shifts bit by bit, the places to shift by as a number that does not
-- overflow at prepare_shift's width, and a value extended by its fill.
use mathlib.Core.Path.{◌≡◌, refl, sym, ap, ◌∙◌}
use mathlib.Core.Bool.{Bool, true, false, not, cond, not-not}
use mathlib.Core.List.{List, [], ◌∷◌, ◌++◌}
use Prim.Native.Nat.{ℕ, zero, suc, ◌+◌, ◌-◌, ◌*◌, ◌^◌, ◌≤◌, ◌<◌, max}
use native.Mathlib.Nat.{lt_of_not-le, pow-suc, mul-le-mul, mod-eq_of_lt, add_comm}
use native.Mathlib.Omega.{arith}
use lib.Dec.{ltb}
use borrow.Author.Tests.{ltb-true, ltb-false}
use lib.ListN.{length, get_or, take, drop, replicate, length-append, length-replicate, get_or-append}
use lib.ListN.{get_or-eq_default, get_or-map, get_or-replicate}
use lib.Seq.{get_or-take, get_or-drop, get_or-append-add, length-take-le}
use lib.Ieee.{size, span, climb}
use lib.Ieee.Digits.{size-lt, size-le}
use lib.Pow.{pow_pos, pow-add, pow_mono}
use Rattle.logic.specs.Table.{tab}
use Rattle.logic.specs.Trit.{shows}
use Rattle.logic.specs.declared.Trit.{Trit}
use Rattle.logic.specs.declared.Trit.TheVariants.{Zero, One, Undef}
use Rattle.bitvec.specs.Bits.{Bits, bv2nat, nat2bv}
use Rattle.bitvec.specs.Ops.{extract, bvnot, msb, bvshl, bvlshr, bvashr, bvmul}
use Rattle.bitvec.proofs.Laws.{length-bvnot, length-bvlshr, bv2nat-nat2bv}
use Rattle.bitvec.proofs.Numbers.{bv2nat-bvmul}
use Rattle.bitvec.proofs.Shifts.{shl_list, lshr_list}
use Rattle.rules.specs.Trits.{any_x, number}
use Rattle.smt.specs.Builder.{ones, ilog2, shift_width}
use Rattle.smt.proofs.Shows.{Shown, shown-x, shown-y, shown_ts, shown-at, get_d_any}
use Rattle.smt.proofs.ShowsNumber.{number-defined, ones-shows, shown-tab}

-- ---- the shifts, bit by bit

-- What is filled up by the default reads as before.
pub get_d_pad : {A : Type 0} (l : List A) (m : ℕ) (d : A) (i : ℕ) → get_or (l ++ replicate m d) i d ≡ get_or l i d
get_d_pad [] zero d i = refl
get_d_pad [] (suc m) d zero = refl
get_d_pad [] (suc m) d (suc i) = get_d_pad [] m d i
get_d_pad (a ∷ l) m d zero = refl
get_d_pad (a ∷ l) m d (suc i) = get_d_pad l m d i

pub shl_at : (s t : Bits) (i : ℕ) → i < length s
    → get_or (bvshl s t) i false ≡ cond (ltb i (bv2nat t)) false (get_or s (i - bv2nat t) false)
shl_at s t i h = rw (
  shl_list (length s) (bv2nat t) s (omega arith),
  get_or-take (length s)
      (replicate (bv2nat t) false ++ s) i false h,
)
    (go (bv2nat t))
  where
    go : (k : ℕ) → get_or (replicate k false ++ s) i false ≡ cond (ltb i k) false (get_or s (i - k) false)
    go k = by (ltb i k) refl
      where
        by : (b : Bool) → ltb i k ≡ b → get_or (replicate k false ++ s) i false ≡ cond b false (get_or s (i - k) false)
        by true e =
            let l : i < k = omega (arith, ltb-true i k e) in
            get_or-append (replicate k false) s false i (rw (length-replicate k false) l)
            ∙ get_or-replicate k i false false l
        by false e =
            let l : k ≤ i = omega (arith, ltb-false i k e) in
            ap (λ (j : ℕ). get_or (replicate k false ++ s) j false) (at_k l)
            ∙ get_or-append-add (replicate k false) s (i - k) false
          where
            at_k : k ≤ i → i ≡ length (replicate k false) + (i - k)
            at_k l = rw (length-replicate k false) (omega arith)

pub lshr_at : (s t : Bits) (i : ℕ) → get_or (bvlshr s t) i false ≡ get_or s (i + bv2nat t) false
lshr_at s t i =
    rw (
      lshr_list (bv2nat t) s,
      get_d_pad (drop (bv2nat t) s) (length s - length (drop (bv2nat t) s)) false i,
      get_or-drop (bv2nat t) s i false,
      add_comm i (bv2nat t),
    )

pub ashr_at : (s t : Bits) (i : ℕ) → i < length s → get_or (bvashr s t) i false ≡ get_or s (i + bv2nat t) (msb s)
ashr_at s t i h = go (msb s)
  where
    go : (b : Bool) → get_or (cond b (bvnot (bvlshr (bvnot s) t)) (bvlshr s t)) i false ≡ get_or s (i + bv2nat t) b
    go true =
        get_d_any (bvnot (bvlshr (bvnot s) t)) i false true
        (rw (length-bvnot (bvlshr (bvnot s) t), length-bvlshr (bvnot s) t, length-bvnot s) h)
        ∙ get_or-map not (bvlshr (bvnot s) t) i false ∙ ap not (lshr_at (bvnot s) t i)
        ∙ ap not (get_or-map not s (i + bv2nat t) true) ∙ not-not (get_or s (i + bv2nat t) true)
    go false = lshr_at s t i

-- The top of a list that is filled up with its top.
pub top_pad : {A : Type 0} (l : List A) (m : ℕ) (d e : A) → 0 < length l → get_or l (length l - 1) d ≡ d
    → get_or (l ++ replicate m d) (length l + m - 1) e ≡ d
top_pad l m d e some top =
    get_d_any (l ++ replicate m d) (length l + m - 1) e d (simp (length-append, length-replicate) (omega arith))
    ∙ get_d_pad l m d (length l + m - 1) ∙ go m
  where
    go : (m : ℕ) → get_or l (length l + m - 1) d ≡ d
    go zero = ap (λ (j : ℕ). get_or l j d) same_place ∙ top
      where
        same_place : length l + 0 - 1 ≡ length l - 1
        same_place = omega arith
    go (suc m) = get_or-eq_default l d {n = length l + suc m - 1} (omega arith)

-- ---- the places to shift by

-- A number is below the power of two after its logarithm.
ilog2_lt : (n : ℕ) → n < 2 ^ suc (ilog2 n)
ilog2_lt n = let up : 2 ^ size n ≤ 2 ^ suc (size n - 1) = pow_mono (omega arith) in omega (arith, size-lt n)

-- It is the one exponent whose power of two the number reaches without reaching the next.
pub ilog2-is : (n k : ℕ) → 2 ^ k ≤ n → n < 2 ^ suc k → ilog2 n ≡ k
ilog2-is n k reached below =
    let least : k < size n = lt_of_not-le (λ (few : size n ≤ k). reaches_no_more (pow_mono few)) in
    omega (arith, size-le n (suc k) below)
  where
    reaches_no_more : 2 ^ size n ≤ 2 ^ k → ⊥
    reaches_no_more few = omega (arith, size-lt n)

-- Computed, at the largest stride of a number word.
pub ilog2_largest : ilog2 (2 ^ 29 - 1) ≡ 28
unfolding size span climb
ilog2_largest = refl

-- An amount of at most 32 nets and a stride that a number word holds leave the width within 64.
pub shift_width-narrow : (n m stride : ℕ) → n ≤ 64 → m ≤ 32 → stride < 2 ^ 29 → shift_width n m stride ≤ 64
unfolding shift_width
shift_width-narrow n m stride hn hm hs = omega (arith, size-le (max stride 1) 29 (omega arith))

pub stride_fits : (stride m w : ℕ) → m + ilog2 (max stride 1) + 1 ≤ w → stride * 2 ^ m < 2 ^ w
stride_fits stride m w h =
    let l = ilog2 (max stride 1) in
    let a = ilog2_lt (max stride 1) in
    let b = mul-le-mul {n₁ = stride + 1} {m₁ = 2 ^ m} {n₂ = 2 ^ suc l} {m₂ = 2 ^ m} (omega arith) (omega arith) in
    let c : 2 ^ (suc l + m) ≤ 2 ^ w = pow_mono (omega arith) in
    let p = pow_pos m in
    omega (arith, pow-add 2 (suc l) m)

number_lt : (us : List Trit) → number us < 2 ^ length us
unfolding number
number_lt [] = omega arith
number_lt (Zero ∷ us) = let h = number_lt us in rw (pow-suc 2 (length us)) (omega arith)
number_lt (One ∷ us) = let h = number_lt us in rw (pow-suc 2 (length us)) (omega arith)
number_lt (Undef ∷ us) = let h = number_lt us in rw (pow-suc 2 (length us)) (omega arith)

-- Zeros on top change neither the number nor whether there is an X.
number-zeros : (us : List Trit) (k : ℕ) → number (us ++ replicate k Zero) ≡ number us
unfolding number
number-zeros [] zero = refl
number-zeros [] (suc k) = rw (number-zeros [] k)
number-zeros (u ∷ us) k = rw (number-zeros us k)

pub any_x-zeros : (us : List Trit) (k : ℕ) → any_x (us ++ replicate k Zero) ≡ any_x us
unfolding any_x
any_x-zeros [] zero = refl
any_x-zeros [] (suc k) = any_x-zeros [] k
any_x-zeros (u ∷ us) k = rw (any_x-zeros us k)

-- amount × stride does not overflow at prepare_shift's width.
pub by_number : (w : ℕ) (x y : Bits) (us : List Trit) (k stride : ℕ) → Shown w x y (us ++ replicate k Zero)
    → length us + ilog2 (max stride 1) + 1 ≤ w → any_x us ≡ false → bv2nat (bvmul y (nat2bv w stride))
    ≡ number us * stride
by_number w x y us k stride p h e =
    bv2nat-bvmul y (nat2bv w stride)
    ∙ rw (shown-y p, bv2nat-nat2bv w stride, mod-eq_of_lt stride_lt, amount-is)
    (mod-eq_of_lt product_lt)
  where
    amount-is : bv2nat y ≡ number us
    amount-is = sym (number-defined p (any_x-zeros us k ∙ e)) ∙ number-zeros us k

    fits : stride * 2 ^ length us < 2 ^ w
    fits = stride_fits stride (length us) w h

    stride_lt : stride < 2 ^ w
    stride_lt =
        let a = mul-le-mul {n₁ = stride} {m₁ = 1} {n₂ = stride} {m₂ = 2 ^ length us} (omega arith)
        (omega (arith, pow_pos (length us))) in
        let b = fits in
        omega arith

    product_lt : number us * stride < 2 ^ w
    product_lt =
        let l = number_lt us in
        let a = mul-le-mul {n₁ = number us} {m₁ = stride} {n₂ = 2 ^ length us} {m₂ = stride} (omega arith)
        (omega arith) in
        let b = fits in
        omega arith

-- ---- what is cut out of the shifted vectors

extract-low : (n : ℕ) (s : Bits) → 0 < n → extract (n - 1) 0 s ≡ take n s
extract-low n s h = ap (λ (k : ℕ). take k s) all-low
  where
    all-low : suc (n - 1) - 0 ≡ n
    all-low = omega arith

-- The n low bits of the shifted x and y, or all X where the amount has one.
pub moved_shows : (n w : ℕ) (p q : Bits) (u : Bool) (f : ℕ → Trit) → 0 < n → n ≤ w → length p ≡ w → length q ≡ w
    → (u ≡ false → (i : ℕ) → i < n → shows (get_or p i false) (get_or q i false) ≡ f i)
    → Shown n (extract (n - 1) 0 (cond (not u) p (ones w))) (extract (n - 1) 0 q) (cond u (replicate n Undef) (tab n f))
moved_shows n w p q u f some le lp lq h = rw (extract-low n (cond (not u) p (ones w)) some, extract-low n q some)
    (go u h)
  where
    cut : (s : Bits) → length s ≡ w → length (take n s) ≡ n
    cut s e = length-take-le n s (omega arith)

    all_ones_lem : (n w : ℕ) → n ≤ w → take n (ones w) ≡ ones n
    all_ones_lem zero w l = refl
    all_ones_lem (suc n) zero l = absurd (omega arith)
    all_ones_lem (suc n) (suc w) l = ap (λ (r : Bits). true ∷ r) (all_ones_lem n w (omega arith))

    go : (u : Bool) → (u ≡ false → (i : ℕ) → i < n → shows (get_or p i false) (get_or q i false) ≡ f i)
        → Shown n (take n (cond (not u) p (ones w))) (take n q) (cond u (replicate n Undef) (tab n f))
    go true h = rw (all_ones_lem n w le) (ones-shows n (take n q) (cut q lq))
    go false h =
        shown-tab n (take n p) (take n q) f (cut p lp) (cut q lq)
        λ i l. rw (get_or-take n p i false l, get_or-take n q i false l) (h refl i l)

-- ---- in each lane

module _ {w : ℕ} {x y : Bits} (ts : List Trit) (j : ℕ) where
  pub shl_lanes : Shown w x y (ts ++ replicate j Zero) → (by : Bits) (i : ℕ) → i < w
      → shows (get_or (bvshl x by) i false) (get_or (bvshl y by) i false)
      ≡ cond (ltb i (bv2nat by)) Zero (get_or ts (i - bv2nat by) Zero)
  shl_lanes p by i h =
      rw (shl_at x by i (rw (shown-x p) h), shl_at y by i (rw (shown-y p) h)) (go (ltb i (bv2nat by)) (i - bv2nat by))
    where
      go : (u : Bool) (k : ℕ) → shows (cond u false (get_or x k false)) (cond u false (get_or y k false))
          ≡ cond u Zero (get_or ts k Zero)
      go true k = refl
      go false k = shown-at p k false false ∙ get_d_pad ts j Zero k

  pub lshr_lanes : Shown w x y (ts ++ replicate j Zero) → (by : Bits) (i : ℕ) → i < w
      → shows (get_or (bvlshr x by) i false) (get_or (bvlshr y by) i false) ≡ get_or ts (i + bv2nat by) Zero
  lshr_lanes p by i h =
      rw (lshr_at x by i, lshr_at y by i) (shown-at p (i + bv2nat by) false false ∙ get_d_pad ts j Zero (i + bv2nat by))

  -- The top trit, where the fill is the top.
  top_shows : (top : Trit) → Shown w x y (ts ++ replicate j top) → 0 < length ts → get_or ts (length ts - 1) top ≡ top
      → shows (msb x) (msb y) ≡ top
  top_shows top p some e =
      rw (shown-x p, shown-y p)
      (shown-at p (w - 1) false false ∙ ap (λ (k : ℕ). get_or (ts ++ replicate j top) k Zero) last
      ∙ top_pad ts j top Zero some e)
    where
      last : w - 1 ≡ length ts + j - 1
      last = ap (λ (k : ℕ). k - 1) (sym (shown_ts p) ∙ length-append ts (replicate j top)
          ∙ ap (λ (k : ℕ). length ts + k) (length-replicate j top))

  pub ashr_lanes : (top : Trit) → Shown w x y (ts ++ replicate j top) → 0 < length ts → get_or ts (length ts - 1) top
      ≡ top
      → (by : Bits) (i : ℕ) → i < w
      → shows (get_or (bvashr x by) i false) (get_or (bvashr y by) i false) ≡ get_or ts (i + bv2nat by) top
  ashr_lanes top p some e by i h =
      rw (ashr_at x by i (rw (shown-x p) h), ashr_at y by i (rw (shown-y p) h))
      (shown-at p (i + bv2nat by) (msb x) (msb y)
      ∙ ap (λ (u : Trit). get_or (ts ++ replicate j top) (i + bv2nat by) u) (top_shows top p some e)
      ∙ get_d_pad ts j top (i + bv2nat by))

  -- XShr: x is filled with its top, y with 0.
  pub xshr_lanes : Shown w x y (ts ++ replicate j Undef) → 0 < length ts → get_or ts (length ts - 1) Undef ≡ Undef
      → (by : Bits) (i : ℕ) → i < w
      → shows (get_or (bvashr x by) i false) (get_or (bvlshr y by) i false) ≡ get_or ts (i + bv2nat by) Undef
  xshr_lanes p some e by i h =
      rw (ashr_at x by i (rw (shown-x p) h), lshr_at y by i)
      (shown-at p (i + bv2nat by) (msb x) false
      ∙ ap (λ (u : Trit). get_or (ts ++ replicate j Undef) (i + bv2nat by) u)
      (hidden (msb x) (msb y) (top_shows Undef p some e))
      ∙ get_d_pad ts j Undef (i + bv2nat by))
    where
      hidden : (a d : Bool) → shows a d ≡ Undef → shows a false ≡ Undef
      hidden true d e = refl
      hidden false true e = let z : ◌≡◌ {A = ℕ} 0 1 = cc in absurd (omega arith)
      hidden false false e = e
