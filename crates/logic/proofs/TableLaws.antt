-- Laws of the definitions of Table.
use mathlib.Core.Path.{◌≡◌, refl, sym, ap, ap₂}
use mathlib.Core.List.{List, [], ◌∷◌, map}
use Prim.Native.Nat.{ℕ, zero, suc, ◌<◌, suc-le-suc}
use native.Mathlib.Nat.{suc_inj, suc-ne-zero, zero-lt-suc}
use lib.ListN.{length, get_or, replicate}
use Rattle.logic.specs.Table.{zip_with, tab}

module _ {A : Type 0} where
  pub length-tab : (n : ℕ) (f : ℕ → A) → length (tab n f) ≡ n
  unfolding tab
  length-tab zero f = refl
  length-tab (suc n) f = ap suc (length-tab n (λ i. f (suc i)))

  pub tab_ext : (n : ℕ) (f g : ℕ → A) → ((i : ℕ) → i < n → f i ≡ g i) → tab n f ≡ tab n g
  unfolding tab
  tab_ext zero f g h = refl
  tab_ext (suc n) f g h =
      ap₂ (λ (a : A) (r : List A). a ∷ r) (h zero (zero-lt-suc n))
      (tab_ext n (λ i. f (suc i)) (λ i. g (suc i)) (λ i l. h (suc i) (suc-le-suc l)))

  -- a list is the table of its elements
  pub as_tab : (n : ℕ) (x : List A) (d : A) → length x ≡ n → x ≡ tab n (λ i. get_or x i d)
  unfolding tab
  as_tab zero [] d e = refl
  as_tab zero (a ∷ x) d e = absurd (suc-ne-zero _ e)
  as_tab (suc n) [] d e = absurd (suc-ne-zero _ (sym e))
  as_tab (suc n) (a ∷ x) d e = ap (λ (r : List A). a ∷ r) (as_tab n x d (suc_inj e))

  pub tab_const : (n : ℕ) (a : A) → replicate n a ≡ tab n (λ _. a)
  unfolding tab
  tab_const zero a = refl
  tab_const (suc n) a = ap (λ (r : List A). a ∷ r) (tab_const n a)

module _ {A B : Type 0} where
  pub map-tab : (g : A → B) (n : ℕ) (f : ℕ → A) → map g (tab n f) ≡ tab n (λ i. g (f i))
  unfolding tab
  map-tab g zero f = refl
  map-tab g (suc n) f = ap (λ (r : List B). g (f zero) ∷ r) (map-tab g n (λ i. f (suc i)))

module _ {A B C : Type 0} where
  pub zip_tab : (g : A → B → C) (n : ℕ) (f : ℕ → A) (h : ℕ → B) → zip_with g (tab n f) (tab n h)
      ≡ tab n (λ i. g (f i) (h i))
  unfolding tab
  zip_tab g zero f h = refl
  zip_tab g (suc n) f h = ap (λ (r : List C). g (f zero) (h zero) ∷ r) (zip_tab g n (λ i. f (suc i)) (λ i. h (suc i)))

pub ruleset lanes = (zip_tab, map-tab)
