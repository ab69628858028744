-- Laws of the way from the root of a tree down to its lowest leaf that is not 0. Assumes nothing.
use mathlib.Core.Path.{◌≡◌, refl, ap, sym, ◌∙◌}
use mathlib.Core.Logic.{◌≢◌}
use mathlib.Core.Bool.{Bool, true, false, cond}
use mathlib.Core.List.{List}
use Prim.Native.Nat.{ℕ, zero, suc, ◌+◌, ◌-◌, ◌*◌, ◌≤◌, ◌<◌, max}
use native.Mathlib.Omega.{arith}
use native.Mathlib.Decide.{ℕ_discrete, dec_lt}
use lib.ListN.{get_or}
use lib.Dec.{eqb}
use borrow.Author.Tests.{eq-eqb, ne_eqb}
use Rattle.std.specs.Prelude.{Some, None}
use Rattle.lowest_set.specs.Tree.{Holds, lowest_of}
use Rattle.loops.proofs.LowestLaws.{lowest-is, lowest-is-none}

-- The leftmost leaf under p, which stands h above the leaves. It is p or more, and grows with p.
abbrev leaf : ℕ → ℕ → ℕ
leaf zero p = p
leaf (suc h) p = leaf h (2 * p)

leaf_grows : (h p : ℕ) → p ≤ leaf h p
leaf_grows zero p = omega arith
leaf_grows (suc h) p = omega (arith, leaf_grows h (2 * p))

leaf_mono : (h p q : ℕ) → p ≤ q → leaf h p ≤ leaf h q
leaf_mono zero p q l = l
leaf_mono (suc h) p q l = leaf_mono h (2 * p) (2 * q) (omega arith)

-- The leaves under the right child of p end where those under p do, and begin before that.
leaf-end : (h p : ℕ) → leaf h (2 * p + 1 + 1) ≡ leaf h (2 * (p + 1))
leaf-end h p = ap (leaf h) (omega arith)

leaf_middle : (h p : ℕ) → leaf h (2 * p + 1) ≤ leaf h (2 * (p + 1))
leaf_middle h p = leaf_mono h (2 * p + 1) (2 * (p + 1)) (omega arith)

-- A leaf is 1 or 0 as its number is in the set or not.
flag_set : (b : Bool) → ◌≢◌ {A = ℕ} (cond b 1 0) 0 → b ≡ true
flag_set true ne = refl
flag_set false ne = absurd (ne refl)

flag_clear : (b : Bool) → ◌≡◌ {A = ℕ} (cond b 1 0) 0 → b ≡ false
flag_clear true e = absurd (omega arith)
flag_clear false e = refl

-- On the way down: p stands h above the leaves and is not 0, and every leaf left of those under it is 0.
pub record At (tree : List ℕ) (h p : ℕ) : Type 0 where
  pub first : 4096 ≤ leaf h p
  pub last : leaf h (p + 1) ≤ 8192
  pub here : get_or tree p 0 ≢ 0
  pub before : (x : ℕ) → 4096 ≤ x → x < leaf h p → get_or tree x 0 ≡ 0

abbrev pub Reached : List ℕ → ℕ → Type 0
Reached tree p = (h : ℕ) × At tree h p

-- The root is reached, where it is not 0.
pub reached_root : {tree : List ℕ} → get_or tree 1 0 ≢ 0 → Reached tree 1
reached_root ne =
    (12, record { first = omega arith; last = omega arith; here = ne; before = λ x from to. absurd (omega arith) })

-- From p the left child is reached, where it is not 0.
left_at : {tree : List ℕ} {p : ℕ} (h : ℕ) → At tree h p → p < 4096 → get_or tree (2 * p) 0 ≢ 0 → Reached tree (2 * p)
left_at zero at low ne = absurd (omega (arith, at.first))
left_at {p = p} (suc h) at low ne =
    (h, record { first = at.first; last = omega (arith, at.last, leaf_middle h p); here = ne; before = at.before })

reached_left : {tree : List ℕ} {p : ℕ} → Reached tree p → p < 4096 → get_or tree (2 * p) 0 ≢ 0 → Reached tree (2 * p)
reached_left r = left_at r.0 r.1

-- A child's number, either one's.
pub child_within : (b : Bool) (p : ℕ) → (2 * p ≤ cond b (2 * p + 1) (2 * p)) × (cond b (2 * p + 1) (2 * p) ≤ 2 * p + 1)
child_within true p = (omega arith, omega arith)
child_within false p = (omega arith, omega arith)

module _ {tree : List ℕ} {members : ℕ → Bool} (holds : Holds tree members) where
  -- Where the word at p, h above the leaves, is 0, every leaf under it is 0.
  abbrev Clear : ℕ → Type 0
  Clear h =
      (p : ℕ) → 0 < p → leaf h (p + 1) ≤ 8192 → get_or tree p 0 ≡ 0
      → (x : ℕ) → leaf h p ≤ x → x < leaf h (p + 1) → get_or tree x 0 ≡ 0

  clear_step : (h : ℕ) → Clear h → Clear (suc h)
  clear_step h rec p pos last e x from to = halves (dec_lt x (leaf h (2 * p + 1)))
    where
      word : 0 ≡ max (get_or tree (2 * p) 0) (get_or tree (2 * p + 1) 0)
      word = sym e ∙ holds.inner p pos (omega (arith, leaf_grows h (2 * (p + 1))))

      halves : Dec (x < leaf h (2 * p + 1)) → get_or tree x 0 ≡ 0
      halves (yes l) = rec (2 * p) (omega arith) (omega (arith, leaf_middle h p)) (omega (arith, word)) x from l
      halves (no l) =
          rec (2 * p + 1) (omega arith) (omega (arith, leaf-end h p)) (omega (arith, word)) x (omega arith)
          (omega (arith, leaf-end h p))

  clear : (h : ℕ) → Clear h
  clear zero = λ p pos last e x from to. let same : x ≡ p = omega arith in rw same e
  clear (suc h) = clear_step h (clear h)

  -- From p the right child is reached, where the left one is 0.
  right-at : {p : ℕ} (h : ℕ) → At tree h p → 0 < p → p < 4096 → get_or tree (2 * p) 0 ≡ 0 → Reached tree (2 * p + 1)
  right-at zero at pos low e = absurd (omega (arith, at.first))
  right-at {p} (suc h) at pos low e = (
    h,
    record {
      first = omega (arith, at.first, leaf_mono h (2 * p) (2 * p + 1) (omega arith));
      last = omega (arith, at.last, leaf-end h p);
      here = λ z. at.here (holds.inner p pos low ∙ omega arith);
      before = λ x from to. before x from to (dec_lt x (leaf h (2 * p)));
    },
  )
    where
      before : (x : ℕ) → 4096 ≤ x → x < leaf h (2 * p + 1) → Dec (x < leaf h (2 * p)) → get_or tree x 0 ≡ 0
      before x from to (yes l) = at.before x from l
      before x from to (no l) =
          clear h (2 * p) (omega arith) (omega (arith, at.last, leaf_middle h p)) e x (omega arith) to

  reached_right : {p : ℕ} → Reached tree p → 0 < p → p < 4096 → get_or tree (2 * p) 0 ≡ 0 → Reached tree (2 * p + 1)
  reached_right r = right-at r.0 r.1

  -- To the left, unless the word there is 0.
  pub reached_down : {p w : ℕ} → Reached tree p → 0 < p → p < 4096 → w ≡ get_or tree (2 * p) 0
      → Reached tree (cond (eqb w 0) (2 * p + 1) (2 * p))
  reached_down {p} {w} r some inner word = go (ℕ_discrete w 0)
    where
      go : Dec (w ≡ 0) → Reached tree (cond (eqb w 0) (2 * p + 1) (2 * p))
      go (yes e) = rw (eq-eqb w 0 e) (reached_right r some inner (sym word ∙ e))
      go (no ne) = rw (ne_eqb w 0 ne) (reached_left r inner (λ e. ne (word ∙ e)))

  -- A leaf that is reached is that of the lowest number.
  leaf-at : {p : ℕ} (h : ℕ) → At tree h p → 4096 ≤ p → Some (p - 4096) ≡ lowest_of members
  leaf-at {p} zero at high = rw (lowest-is 4096 members (p - 4096) (omega (arith, at.last)) there before)
    where
      place : 4096 + (p - 4096) ≡ p
      place = omega arith

      word : get_or tree p 0 ≡ cond (members (p - 4096)) 1 0
      word = rw place at (holds.leaf (p - 4096) (omega (arith, at.last)))

      there : members (p - 4096) ≡ true
      there = flag_set (members (p - 4096)) (λ e. at.here (word ∙ e))

      before : (j : ℕ) → j < p - 4096 → members j ≡ false
      before j l =
          flag_clear (members j)
          (sym (holds.leaf j (omega (arith, at.last))) ∙ at.before (4096 + j) (omega arith) (omega arith))
  leaf-at {p} (suc h) at high = absurd (omega (arith, at.last, leaf_grows h (2 * (p + 1))))

  pub reached_leaf : {p : ℕ} → Reached tree p → 4096 ≤ p → Some (p - 4096) ≡ lowest_of members
  reached_leaf r = leaf-at r.0 r.1

  -- Where the root is 0 the set is empty.
  pub none-there : get_or tree 1 0 ≡ 0 → None ≡ lowest_of members
  none-there e = rw (lowest-is-none 4096 members none)
    where
      none : (j : ℕ) → j < 4096 → members j ≡ false
      none j l =
          flag_clear (members j)
          (sym (holds.leaf j l) ∙ clear 12 1 (omega arith) (omega arith) e (4096 + j) (omega arith) (omega arith))
