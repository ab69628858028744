-- Tables of elements: what is left of one from a place on, and one more element stored. Assumes nothing.
use mathlib.Core.Path.{◌≡◌, refl, ap, ap₂, ◌∙◌}
use mathlib.Core.List.{List, [], ◌∷◌, ◌++◌}
use Prim.Native.Nat.{ℕ, zero, suc, ◌+◌, ◌*◌, ◌<◌, ◌≤◌}
use native.Mathlib.Omega.{arith}
use native.Mathlib.Numerals.{add-one}
use native.Mathlib.Nat.{le_of_suc-le-suc}
use lib.ListN.{length, set, drop, length-set}
use lib.Seq.{get_or-set_same, get_or-set_other}
use Rattle.logic.specs.Table.{tab}
use Rattle.logic.proofs.TableLaws.{tab_ext}
use Rattle.smt.specs.Prog.{BitVec, bv, TritVec, tv}
use Rattle.vectors.specs.Elements.{bit_at, bit_elements, element_at, elements}

module _ {A : Type 0} where
  pub tab_snoc : (n : ℕ) (g : ℕ → A) → tab (suc n) g ≡ tab n g ++ (g n ∷ [])
  unfolding tab
  tab_snoc zero g = refl
  tab_snoc (suc n) g = ap (λ (l : List A). g 0 ∷ l) (tab_snoc n (λ i. g (suc i)))

  pub drop-tab : (n i : ℕ) (g : ℕ → A) → i < n → drop i (tab n g) ≡ g i ∷ drop (suc i) (tab n g)
  unfolding tab
  drop-tab zero i g low = absurd (omega arith)
  drop-tab (suc n) zero g low = refl
  drop-tab (suc n) (suc i) g low = drop-tab n i (λ j. g (suc j)) (le_of_suc-le-suc low)

  pub drop_all : (n i : ℕ) (g : ℕ → A) → n ≤ i → drop i (tab n g) ≡ []
  unfolding tab
  drop_all zero zero g high = refl
  drop_all zero (suc i) g high = refl
  drop_all (suc n) zero g high = absurd (omega arith)
  drop_all (suc n) (suc i) g high = drop_all n i (λ j. g (suc j)) (le_of_suc-le-suc high)

-- ---- one more element

pub no_elements : (terms : List ℕ) → elements terms 0 ≡ []
unfolding elements tab
no_elements terms = refl

pub elements_turn : (terms : List ℕ) (i x y : ℕ) → 2 * i + 1 < length terms
    → elements (set (set terms (2 * i) x) (2 * i + 1) y) (i + 1) ≡ elements terms i ++ (tv (bv x 1) (bv y 1) ∷ [])
unfolding elements
elements_turn terms i x y room =
    rw (add-one i) (tab_snoc i (element_at next) ∙ ap₂ (λ (l : List TritVec) (e : TritVec). l ++ (e ∷ [])) before here)
  where
    mid : List ℕ
    mid = set terms (2 * i) x

    next : List ℕ
    next = set mid (2 * i + 1) y

    before : tab i (element_at next) ≡ tab i (element_at terms)
    before = tab_ext i _ _ λ j low.
        rw (
          get_or-set_other mid (2 * i + 1) (2 * j) y 0 (λ e. omega arith),
          get_or-set_other terms (2 * i) (2 * j) x 0 (λ e. omega arith),
          get_or-set_other mid (2 * i + 1) (2 * j + 1) y 0 (λ e. omega arith),
          get_or-set_other terms (2 * i) (2 * j + 1) x 0 (λ e. omega arith),
        )

    here : element_at next i ≡ tv (bv x 1) (bv y 1)
    here =
        rw (
          get_or-set_other mid (2 * i + 1) (2 * i) y 0 (λ e. omega arith),
          get_or-set_same terms (2 * i) x 0 (omega arith),
          get_or-set_same mid (2 * i + 1) y 0 (let wide = length-set terms (2 * i) x in omega arith),
        )

pub no_bits : (terms : List ℕ) → bit_elements terms 0 ≡ []
unfolding bit_elements tab
no_bits terms = refl

pub bits_turn : (terms : List ℕ) (i t : ℕ) → i < length terms
    → bit_elements (set terms i t) (i + 1) ≡ bit_elements terms i ++ (bv t 1 ∷ [])
unfolding bit_elements
bits_turn terms i t room =
    rw (add-one i)
    (tab_snoc i (bit_at (set terms i t)) ∙ ap₂ (λ (l : List BitVec) (e : BitVec). l ++ (e ∷ [])) before here)
  where
    before : tab i (bit_at (set terms i t)) ≡ tab i (bit_at terms)
    before = tab_ext i _ _ λ j low. rw (get_or-set_other terms i j t 0 (λ e. omega arith))

    here : bit_at (set terms i t) i ≡ bv t 1
    here = rw (get_or-set_same terms i t 0 room)
