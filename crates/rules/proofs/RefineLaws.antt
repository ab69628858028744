-- Laws of the definitions of Refine.
use mathlib.Core.Path.{◌≡◌, refl, ap, ap₂}
use mathlib.Core.Bool.{Bool, true, false, ◌&&◌, ◌||◌, true≢false}
use mathlib.Core.List.{List, [], ◌∷◌, ◌++◌, map}
use Prim.Native.Nat.{ℕ, zero, suc}
use lib.Dec.{T}
use lib.ListN.{length, get_or, take, drop, replicate}
use Rattle.logic.specs.Table.{zip_with, tab}
use Rattle.logic.specs.declared.Trit.{Trit}
use Rattle.logic.specs.declared.Trit.TheVariants.{Zero, One, Undef}
use Rattle.rules.specs.Trits.{refines, is_x, any_x}
use Rattle.rules.proofs.Cases.{all_t, all₁, all₂, all₃, and_first, and_second}
use Rattle.rules.specs.Refine.{Refines, Refine, empty, both}

-- ---- Trits.
pub refines-same : (a : Trit) → Refines a a
refines-same Zero = tt
refines-same One = tt
refines-same Undef = tt

-- X refines every trit, each trit itself, and there is no other way.
data Way : Trit → Trit → Type 0 where
  from_x : {b : Trit} → Way Undef b
  same : {a : Trit} → Way a a

way : (a b : Trit) → Refines a b → Way a b
way Zero Zero h = same
way Zero One h = absurd h
way Zero Undef h = absurd h
way One Zero h = absurd h
way One One h = same
way One Undef h = absurd h
way Undef b h = from_x

pub refines_trans : (a b c : Trit) → Refines a b → Refines b c → Refines a c
refines_trans a b c h k = go (way a b h) k
  where
    go : {a b : Trit} → Way a b → Refines b c → Refines a c
    go from_x k = tt
    go same k = k

pub refines_antisym : (a b : Trit) → Refines a b → Refines b a → a ≡ b
refines_antisym a b h k = go (way a b h) (way b a k)
  where
    go : {a b : Trit} → Way a b → Way b a → a ≡ b
    go same w = refl
    go from_x same = refl
    go from_x from_x = refl

pub refines-defined : (a b : Trit) → Refines a b → is_x a ≡ false → a ≡ b
refines-defined a b h = go (way a b h)
  where
    go : {a b : Trit} → Way a b → is_x a ≡ false → a ≡ b
    go same e = refl
    go from_x e = absurd (true≢false e)

-- ---- Functions of trits: a test of all trits, computed, shows that two are equal, or that one is monotone.
abbrev alike : Trit → Trit → Bool
alike a b = refines a b && refines b a

pub equal₃ : (f g : Trit → Trit → Trit → Trit) → T (all_t λ a. all_t λ b. all_t λ c. alike (f a b c) (g a b c))
    → (a b c : Trit) → f a b c ≡ g a b c
equal₃ f g h a b c =
    let ways = all₃ (λ a b c. alike (f a b c) (g a b c)) h a b c in
    refines_antisym (f a b c) (g a b c)
    (and_first (refines (f a b c) (g a b c)) (refines (g a b c) (f a b c)) ways)
    (and_second (refines (f a b c) (g a b c)) (refines (g a b c) (f a b c)) ways)

-- What f gives of X refines what it gives of any trit.
abbrev pub lowest_at_x : (Trit → Trit) → Bool
lowest_at_x f = all_t λ t. refines (f Undef) (f t)

pub monotone₁ : (f : Trit → Trit) → T (lowest_at_x f) → (a b : Trit) → Refines a b → Refines (f a) (f b)
monotone₁ f low a b h = go (way a b h)
  where
    go : {a b : Trit} → Way a b → Refines (f a) (f b)
    go (same {a}) = refines-same (f a)
    go (from_x {b}) = all₁ (λ t. refines (f Undef) (f t)) low b

module _ (f : Trit → Trit → Trit) where
  pub monotone₂ : T (all_t λ c. lowest_at_x λ t. f t c) → T (all_t λ b. lowest_at_x λ t. f b t)
      → (a b c d : Trit) → Refines a b → Refines c d → Refines (f a c) (f b d)
  monotone₂ low₁ low₂ a b c d h k =
      refines_trans (f a c) (f b c) (f b d)
      (monotone₁ (λ t. f t c) (all₁ (λ c. lowest_at_x λ t. f t c) low₁ c) a b h)
      (monotone₁ (f b) (all₁ (λ b. lowest_at_x (f b)) low₂ b) c d k)

module _ (f : Trit → Trit → Trit → Trit) where
  pub monotone₃ : T (all_t λ c. all_t λ e. lowest_at_x λ t. f t c e)
      → T (all_t λ b. all_t λ e. lowest_at_x λ t. f b t e) → T (all_t λ b. all_t λ d. lowest_at_x λ t. f b d t)
      → (a b c d e g : Trit) → Refines a b → Refines c d → Refines e g → Refines (f a c e) (f b d g)
  monotone₃ low₁ low₂ low₃ a b c d e g h k l =
      refines_trans (f a c e) (f b c e) (f b d g)
      (monotone₁ (λ t. f t c e) (all₂ (λ c e. lowest_at_x λ t. f t c e) low₁ c e) a b h)
      (monotone₂ (f b) (all₁ (λ b. all_t λ e. lowest_at_x λ t. f b t e) low₂ b)
      (all₁ (λ b. all_t λ d. lowest_at_x (f b d)) low₃ b) c d e g k l)

-- ---- Vectors.
pub refine_same : (a : List Trit) → Refine a a
refine_same [] = empty
refine_same (x ∷ a) = both (refines-same x) (refine_same a)

pub refine_antisym : {a b : List Trit} → Refine a b → Refine b a → a ≡ b
refine_antisym empty empty = refl
refine_antisym (both {x} {y} h r) (both k s) =
    ap₂ (λ (t : Trit) (l : List Trit). t ∷ l) (refines_antisym x y h k) (refine_antisym r s)

pub refine_length : {a b : List Trit} → Refine a b → length a ≡ length b
refine_length empty = refl
refine_length (both h r) = ap suc (refine_length r)

pub refine_at : {a b : List Trit} → Refine a b → (i : ℕ) (d e : Trit) → Refines d e
    → Refines (get_or a i d) (get_or b i e)
refine_at empty i d e k = k
refine_at (both h r) zero d e k = h
refine_at (both h r) (suc i) d e k = refine_at r i d e k

pub refine_take : {a b : List Trit} (n : ℕ) → Refine a b → Refine (take n a) (take n b)
refine_take zero r = empty
refine_take (suc n) empty = empty
refine_take (suc n) (both h r) = both h (refine_take n r)

pub refine_drop : {a b : List Trit} (n : ℕ) → Refine a b → Refine (drop n a) (drop n b)
refine_drop zero r = r
refine_drop (suc n) empty = empty
refine_drop (suc n) (both h r) = refine_drop n r

pub refine_append : {a b c d : List Trit} → Refine a b → Refine c d → Refine (a ++ c) (b ++ d)
refine_append empty s = s
refine_append (both h r) s = both h (refine_append r s)

pub refine_tab : (n : ℕ) (f g : ℕ → Trit) → ((i : ℕ) → Refines (f i) (g i)) → Refine (tab n f) (tab n g)
unfolding tab
refine_tab zero f g h = empty
refine_tab (suc n) f g h = both (h zero) (refine_tab n (λ i. f (suc i)) (λ i. g (suc i)) (λ i. h (suc i)))

module _ {A : Type 0} (f g : A → Trit) (below : (x : A) → Refines (f x) (g x)) where
  pub refine_values : (l : List A) → Refine (map f l) (map g l)
  refine_values [] = empty
  refine_values (x ∷ l) = both (below x) (refine_values l)

module _ (f : Trit → Trit) (monotone : (a b : Trit) → Refines a b → Refines (f a) (f b)) where
  pub refine_map : {a b : List Trit} → Refine a b → Refine (map f a) (map f b)
  refine_map empty = empty
  refine_map (both {x} {y} h r) = both (monotone x y h) (refine_map r)

module _ (f g : Trit → Trit → Trit)
    (monotone : (a b c d : Trit) → Refines a b → Refines c d → Refines (f a c) (g b d)) where
  pub refine_zip : {a b c d : List Trit} → Refine a b → Refine c d → Refine (zip_with f a c) (zip_with g b d)
  refine_zip empty s = empty
  refine_zip (both h r) empty = empty
  refine_zip (both {x} {y} h r) (both {x = z} {y = w} k s) = both (monotone x y z w h k) (refine_zip r s)

-- A vector of Xs refines every vector of its width; one without X none but itself.
pub refine_all_x : (a : List Trit) → Refine (replicate (length a) Undef) a
refine_all_x [] = empty
refine_all_x (x ∷ a) = both tt (refine_all_x a)

pub neither : (u v : Bool) → (u || v) ≡ false → (u ≡ false) × (v ≡ false)
neither true v e = absurd (true≢false e)
neither false v e = (refl, e)

pub refine_defined : {a b : List Trit} → Refine a b → any_x a ≡ false → a ≡ b
unfolding any_x
refine_defined empty none = refl
refine_defined (both {x} {y} {a} h r) none =
    let defined = neither (is_x x) (any_x a) none in
    ap₂ (λ (t : Trit) (l : List Trit). t ∷ l) (refines-defined x y h defined.0) (refine_defined r defined.1)
