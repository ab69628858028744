-- Turning X operands into 0 or 1 changes no defined output: every rule is monotone, at every width.
use mathlib.Core.Path.{◌≡◌, refl, sym, ◌∙◌}
use mathlib.Core.Bool.{Bool, true, false, cond, ◌||◌}
use mathlib.Core.List.{List, [], ◌∷◌, map}
use mathlib.Core.List.Memᴰ
use mathlib.Core.List.{Memᴰ}
use Prim.Native.Nat.{ℕ, suc, ◌+◌, ◌-◌, ◌*◌, ◌/◌, ◌%◌}
use lib.Dec.{T, eqb, ltb}
use lib.ListN.{length, get_or, take, replicate}
use Rattle.logic.specs.Net.{Net}
use Rattle.logic.specs.declared.Trit.{Trit}
use Rattle.logic.specs.declared.Trit.TheVariants.{Zero, One, Undef}
use Rattle.cell.specs.Cell.{Unary, Binary, Shift}
use Rattle.cell.specs.Cell as c
use Rattle.rules.specs.Trits as t
use Rattle.rules.specs.Trits.{is_x, any_x, digit, number, bit_at, trit}
use Rattle.rules.specs.Rules as r
use Rattle.rules.specs.Reads.{compared, compared_by_any, compared_nets}
use Rattle.rules.proofs.Number.{sum_low}
use Rattle.rules.specs.Refine.{Refines, Refine, empty, both}
use Rattle.rules.proofs.RefineLaws.{refines-same, neither}
use Rattle.rules.proofs.RefineLaws as f
use Rattle.rules.proofs.WidthLaws.{Width, defined-width, one_width, tab-width, shift-width}

-- ---- Single trits.
pub not-monotone : (a a' : Trit) → Refines a a' → Refines (t.not a) (t.not a')
not-monotone = f.monotone₁ t.not tt

pub and-monotone : (a a' b b' : Trit) → Refines a a' → Refines b b' → Refines (t.and a b) (t.and a' b')
and-monotone = f.monotone₂ t.and tt tt

pub or-monotone : (a a' b b' : Trit) → Refines a a' → Refines b b' → Refines (t.or a b) (t.or a' b')
or-monotone = f.monotone₂ t.or tt tt

pub xor-monotone : (a a' b b' : Trit) → Refines a a' → Refines b b' → Refines (t.xor a b) (t.xor a' b')
xor-monotone = f.monotone₂ t.xor tt tt

pub mux-trit-monotone : (s s' a a' b b' : Trit) → Refines s s' → Refines a a' → Refines b b'
    → Refines (t.mux s a b) (t.mux s' a' b')
mux-trit-monotone = f.monotone₃ t.mux tt tt tt

-- ---- Vectors, trit by trit.
pub unary-monotone : (op : Unary) {a a' : List Trit} → Refine a a' → Refine (r.unary op a) (r.unary op a')
unary-monotone c.buf h = h
unary-monotone c.inverter h = f.refine_map t.not not-monotone h

pub mux-monotone : (s s' : Trit) {a a' b b' : List Trit} → Refines s s' → Refine a a' → Refine b b'
    → Refine (r.mux s a b) (r.mux s' a' b')
mux-monotone s s' l = f.refine_zip (t.mux s) (t.mux s') (λ a a' b b'. mux-trit-monotone s s' a a' b b' l)

-- ---- Eq: a defined mismatch stays one.
mismatch-kept : (a a' b b' : Trit) → Refines a a' → Refines b b' → T (r.mismatch a b) → T (r.mismatch a' b')
mismatch-kept a a' b b' h k =
    kept (r.mismatch a b) (r.mismatch a' b')
    (f.monotone₂ (λ x y. cond (r.mismatch x y) One Undef) tt tt a a' b b' h k)
  where
    kept : (u v : Bool) → Refines (cond u One Undef) (cond v One Undef) → T u → T v
    kept true true l t = tt
    kept true false l t = l
    kept false v l t = absurd t

any_mismatch-kept : {a a' b b' : List Trit} → Refine a a' → Refine b b'
    → T (r.any_mismatch a b) → T (r.any_mismatch a' b')
unfolding r.any_mismatch
any_mismatch-kept empty k t = absurd t
any_mismatch-kept (both h hs) empty t = absurd t
any_mismatch-kept (both {x} {y} h hs) (both {x = z} {y = w} k ks) t =
    either (r.mismatch x z) _ (r.mismatch y w) _ (mismatch-kept x y z w h k) (any_mismatch-kept hs ks) t
  where
    either : (u v u' v' : Bool) → (T u → T u') → (T v → T v') → T (u || v) → T (u' || v')
    either true v true v' p q t = tt
    either true v false v' p q t = absurd (p t)
    either false v true v' p q t = tt
    either false v false v' p q t = q t

pub eq-monotone : {a a' b b' : List Trit} → Refine a a' → Refine b b' → Refines (r.eq a b) (r.eq a' b')
eq-monotone {a} {a'} {b} {b'} h k = go (r.any_mismatch a b) (any_x a || any_x b) refl refl
  where
    is_true_lem : (b : Bool) → T b → b ≡ true
    is_true_lem true t = refl
    is_true_lem false t = absurd t

    go : (m x : Bool) → r.any_mismatch a b ≡ m → (any_x a || any_x b) ≡ x
        → Refines (cond m Zero (cond x Undef One)) (r.eq a' b')
    go true x em ex = rw (is_true_lem (r.any_mismatch a' b') (any_mismatch-kept h k (rw em tt))) tt
    go false true em ex = tt
    go false false em ex =
        let none = neither (any_x a) (any_x b) ex in
        rw (← f.refine_defined h none.0, ← f.refine_defined k none.1, em, ex) tt

-- ---- ULt, SLt, Mul and the divisions: undefined wherever an operand has an X. Then all is X, which refines every
-- vector of the width; without X the operands stay.
module _ (undefined : List Trit → List Trit → Bool)
    (no_x_lem : (a b : List Trit) → undefined a b ≡ false → r.some_x a b ≡ false) where
  strict : {a a' b b' : List Trit} → Refine a a' → Refine b b' → (n : ℕ) (result : List Trit → List Trit → List Trit)
      → Width n (result a' b')
      → Refine (r.defined (undefined a b) n (result a b)) (r.defined (undefined a' b') n (result a' b'))
  strict {a} {a'} {b} {b'} h k n result width = go (undefined a b) refl
    where
      given : List Trit
      given = r.defined (undefined a' b') n (result a' b')

      go : (u : Bool) → undefined a b ≡ u → Refine (r.defined u n (result a b)) given
      go true e = rw (defined-width (undefined a' b') n (result a' b') width).is at (f.refine_all_x given)
      go false e =
          let none = neither (any_x a) (any_x b) (no_x_lem a b e) in
          rw (← f.refine_defined h none.0, ← f.refine_defined k none.1, e) (f.refine_same (result a b))

on_x : {a a' b b' : List Trit} → Refine a a' → Refine b b' → (n : ℕ) (result : List Trit → List Trit → List Trit)
    → Width n (result a' b')
    → Refine (r.defined (r.some_x a b) n (result a b)) (r.defined (r.some_x a' b') n (result a' b'))
on_x = strict (λ a b. r.some_x a b) (λ a b e. e)

divided-monotone : {a a' b b' : List Trit} → Refine a a' → Refine b b' → (result : List Trit → List Trit → ℕ)
    → Refine (r.divided a b (result a b)) (r.divided a' b' (result a' b'))
divided-monotone {a} h k result =
    rw (← f.refine_length h)
    (strict (λ x y. r.undivided x y) (λ x y e. (neither (r.some_x x y) (eqb (number y) 0) e).0) h k (length a)
    (λ x y. r.trits (length a) (result x y)) (tab-width (length a) _))

pub binary-monotone : (op : Binary) {a a' b b' : List Trit} → Refine a a' → Refine b b'
    → Refine (r.binary op a b) (r.binary op a' b')
binary-monotone c.and h k = f.refine_zip t.and t.and and-monotone h k
binary-monotone c.or h k = f.refine_zip t.or t.or or-monotone h k
binary-monotone c.xor h k = f.refine_zip t.xor t.xor xor-monotone h k
binary-monotone c.eq h k = both (eq-monotone h k) empty
binary-monotone c.ult h k = on_x h k 1 (λ a b. trit (r.less a b) ∷ []) (one_width _)
binary-monotone c.slt h k = on_x h k 1 (λ a b. trit (r.signed_less a b) ∷ []) (one_width _)
binary-monotone c.mul {a} h k =
    rw (← f.refine_length h)
    (on_x h k (length a) (λ x y. r.trits (length a) (number x * number y)) (tab-width (length a) _))
binary-monotone c.udiv h k = divided-monotone h k (λ a b. number a / number b)
binary-monotone c.umod h k = divided-monotone h k (λ a b. number a % number b)
binary-monotone c.sdiv_trunc h k = divided-monotone h k (λ a b. r.quotient a b)
binary-monotone c.smod_trunc h k = divided-monotone h k (λ a b. r.remainder a b)

-- ---- Adc: bit i, where it is no X, reads only defined trits, and those stay.
pub adc-monotone : {a a' b b' : List Trit} → Refine a a' → Refine b b' → (c c' : Trit) → Refines c c'
    → Refine (r.adc a b c) (r.adc a' b' c')
adc-monotone {a} {a'} {b} {b'} h k c c' l =
    rw (← f.refine_length h) (f.refine_tab (length a + 1) _ (r.adc_bit a' b' c') λ i. at-bit i (undefined i) refl)
  where
    undefined : ℕ → Bool
    undefined i = is_x c || (any_x (take (i + 1) a) || any_x (take (i + 1) b))

    at-bit : (i : ℕ) (x : Bool) → undefined i ≡ x
        → Refines (cond x Undef (bit_at (number a + number b + digit c) i)) (r.adc_bit a' b' c' i)
    at-bit i true e = tt
    at-bit i false e =
        let none = neither (is_x c) (any_x (take (i + 1) a) || any_x (take (i + 1) b)) e in
        let low = neither (any_x (take (i + 1) a)) (any_x (take (i + 1) b)) none.1 in
        rw (
          ← f.refines-defined c c' l none.0,
          sum_low i a' b' (digit c),
          ← f.refine_defined (f.refine_take (i + 1) h) low.0,
          ← f.refine_defined (f.refine_take (i + 1) k) low.1,
          e,
          sum_low i a b (digit c),
        ) (refines-same (bit_at (number (take (i + 1) a) + number (take (i + 1) b) + digit c) i))

-- ---- Shifts.
left-monotone : (k : ℕ) {a a' : List Trit} → Refine a a' → Refine (r.left k a) (r.left k a')
left-monotone k {a} {a'} h = rw (← f.refine_length h) (f.refine_tab (length a) _ _ λ i. go i (ltb i k))
  where
    go : (i : ℕ) (low : Bool) → Refines (cond low Zero (get_or a (i - k) Zero)) (cond low Zero (get_or a' (i - k) Zero))
    go i true = tt
    go i false = f.refine_at h (i - k) Zero Zero tt

right-monotone : (u u' : Trit) (k : ℕ) {a a' : List Trit} → Refines u u' → Refine a a'
    → Refine (r.right u k a) (r.right u' k a')
right-monotone u u' k {a} l h =
    rw (← f.refine_length h) (f.refine_tab (length a) _ _ λ i. f.refine_at h (i + k) u u' l)

shifted-monotone : (op : Shift) (k : ℕ) {a a' : List Trit} → Refine a a' → Refine (r.shifted op k a) (r.shifted op k a')
shifted-monotone c.shl k h = left-monotone k h
shifted-monotone c.ushr k h = right-monotone Zero Zero k tt h
shifted-monotone c.sshr k {a} {a'} h = right-monotone _ _ k top h
  where
    top : Refines (get_or a (length a - 1) Undef) (get_or a' (length a' - 1) Undef)
    top = rw (← f.refine_length h) (f.refine_at h (length a - 1) Undef Undef tt)
shifted-monotone c.xshr k h = right-monotone Undef Undef k tt h

pub shift-length : (op : Shift) (a b : List Trit) (stride : ℕ) → length (r.shift op a b stride) ≡ length a
shift-length op a b stride = (shift-width op {a = a} (record { is = refl }) b stride).is

pub shift-monotone : (op : Shift) {a a' b b' : List Trit} → Refine a a' → Refine b b' → (stride : ℕ)
    → Refine (r.shift op a b stride) (r.shift op a' b' stride)
shift-monotone op {a} {a'} {b} {b'} h k stride = go (any_x b) refl
  where
    go : (x : Bool) → any_x b ≡ x
        → Refine (cond x (replicate (length a) Undef) (r.shifted op (number b * stride) a)) (r.shift op a' b' stride)
    go true e =
        rw (shift-length op a' b' stride ∙ sym (f.refine_length h)) at (f.refine_all_x (r.shift op a' b' stride))
    go false e = rw (← f.refine_defined k e, e) (shifted-monotone op (number b * stride) h)

-- ---- Match: it looks only at the nets that an alternate compares.
module _ (g g' : Net → Trit) where
  abbrev Below : List Net → Type 0
  Below nets = (v : Net) → Memᴰ v nets → Refines (g v) (g' v)

  alternate-monotone : (value : List Net) (pattern : List Trit) → Below (compared value pattern)
      → Refines (r.alternate (map g value) pattern) (r.alternate (map g' value) pattern)
  unfolding r.alternate compared
  alternate-monotone [] pattern h = tt
  alternate-monotone (v ∷ value) [] h = tt
  alternate-monotone (v ∷ value) (Undef ∷ pattern) h = alternate-monotone value pattern h
  alternate-monotone (v ∷ value) (Zero ∷ pattern) h =
      and-monotone (t.not (g v)) (t.not (g' v)) _ _ (not-monotone (g v) (g' v) (h v (Memᴰ.head refl)))
      (alternate-monotone value pattern λ w m. h w (Memᴰ.tail m))
  alternate-monotone (v ∷ value) (One ∷ pattern) h =
      and-monotone (g v) (g' v) _ _ (h v (Memᴰ.head refl))
      (alternate-monotone value pattern λ w m. h w (Memᴰ.tail m))

  matches-monotone : (value : List Net) (alternates : List (List Trit)) → Below (compared_by_any value alternates)
      → Refines (r.matches (map g value) alternates) (r.matches (map g' value) alternates)
  unfolding r.matches compared_by_any
  matches-monotone value [] h = tt
  matches-monotone value (a ∷ alternates) h =
      or-monotone (r.alternate (map g value) a) (r.alternate (map g' value) a) _ _
      (alternate-monotone value a λ v m. h v (Memᴰ.append_left _ m))
      (matches-monotone value alternates λ v m. h v (Memᴰ.append_right (compared value a) m))

  all-monotone : (value : List Net) (patterns : List (List (List Trit))) → Below (compared_nets value patterns)
      → Refine (map (r.matches (map g value)) patterns) (map (r.matches (map g' value)) patterns)
  unfolding compared_nets
  all-monotone value [] h = empty
  all-monotone value (p ∷ patterns) h =
      both (matches-monotone value p λ v m. h v (Memᴰ.append_left _ m))
      (all-monotone value patterns λ v m. h v (Memᴰ.append_right (compared_by_any value p) m))

  first_hot-monotone : (k i : ℕ) {ms ms' : List Trit} → Refine ms ms' → Refine (r.first_hot k i ms) (r.first_hot k i ms')
  unfolding r.first_hot
  first_hot-monotone k i empty = f.refine_same (replicate k Zero)
  first_hot-monotone k i (both {x} {y} h hs) =
      mux-monotone x y h (f.refine_same (r.one_hot k i)) (first_hot-monotone k (suc i) hs)

  pub match-monotone : (value : List Net) (e e' : Trit) (patterns : List (List (List Trit))) → Refines e e'
      → ((v : Net) → Memᴰ v (compared_nets value patterns) → Refines (g v) (g' v))
      → Refine (r.match (map g value) e patterns) (r.match (map g' value) e' patterns)
  match-monotone value e e' patterns l h =
      mux-monotone e e' l (first_hot-monotone (length patterns) 0 (all-monotone value patterns h))
      (f.refine_same (replicate (length patterns) Zero))

-- ---- Assign.
overwrite-monotone : {a a' b b' : List Trit} (offset : ℕ) → Refine a a' → Refine b b'
    → Refine (r.overwrite a offset b) (r.overwrite a' offset b')
overwrite-monotone {b = b} offset h k =
    rw (← f.refine_length k)
    (f.refine_append (f.refine_take offset h) (f.refine_append k (f.refine_drop (offset + length b) h)))

pub assign-monotone : {a a' b b' : List Trit} (e e' : Trit) (offset : ℕ) → Refine a a' → Refines e e' → Refine b b'
    → Refine (r.assign a e b offset) (r.assign a' e' b' offset)
assign-monotone e e' offset h l k = mux-monotone e e' l (overwrite-monotone offset h k) h

-- ---- Dff: the inputs of one flip-flop, and those with Xs turned into 0 or 1.
pub record InputsRefine (p q : r.FlipFlopInputs) : Type 0 where
  pub edge : Refines p.edge q.edge
  pub clear : Refines p.clear q.clear
  pub reset : Refines p.reset q.reset
  pub enable : Refines p.enable q.enable
  pub dat : Refine p.dat q.dat
  pub past : Refine p.past q.past
  pub clear_value : Refine p.clear_value q.clear_value
  pub reset_value : Refine p.reset_value q.reset_value
  pub has_clear : p.has_clear ≡ q.has_clear
  pub reset_over_enable : p.reset_over_enable ≡ q.reset_over_enable

cond_refine : (b : Bool) {u u' v v' : List Trit} → Refine u u' → Refine v v' → Refine (cond b u v) (cond b u' v')
cond_refine true h k = h
cond_refine false h k = k

module _ (p q : r.FlipFlopInputs) (h : InputsRefine p q) where
  loaded-monotone : Refine (r.loaded p) (r.loaded q)
  loaded-monotone =
      rw (← h.reset_over_enable) (cond_refine p.reset_over_enable (reset h.reset_value (enable h.dat h.past))
      (enable (reset h.reset_value h.dat) h.past))
    where
      reset : {a a' b b' : List Trit} → Refine a a' → Refine b b'
          → Refine (r.mux p.reset a b) (r.mux q.reset a' b')
      reset = mux-monotone p.reset q.reset h.reset

      enable : {a a' b b' : List Trit} → Refine a a' → Refine b b'
          → Refine (r.mux p.enable a b) (r.mux q.enable a' b')
      enable = mux-monotone p.enable q.enable h.enable

  clocked-monotone : Refine (r.clocked p) (r.clocked q)
  clocked-monotone = mux-monotone p.edge q.edge h.edge loaded-monotone h.past

  pub dff-monotone : Refine (r.dff p) (r.dff q)
  dff-monotone =
      rw (← h.has_clear) (cond_refine p.has_clear
      (mux-monotone p.clear q.clear h.clear h.clear_value clocked-monotone) clocked-monotone)
