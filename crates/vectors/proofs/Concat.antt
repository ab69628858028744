-- bv_concat and tv_concat, from the last element down: one law for both, over what their models share. Assumes nothing.
use mathlib.Core.Path.{◌≡◌, refl}
use mathlib.Core.List.{List, [], ◌∷◌}
use Prim.Native.Nat.{ℕ, zero, suc, ◌-◌, ◌<◌}
use native.Mathlib.Omega.{arith}
use native.Mathlib.Numerals.{sub-one}
use lib.ListN.{drop}
use Rattle.logic.specs.Table.{tab}
use Rattle.smt.specs.Prog.{Prog, ret, ◌>>=◌, BitVec, bv, TritVec, tv, build_concat}
use Rattle.smt.specs.Builder.{bv_concat_on, bv_concat, tv_concat_on, tv_concat}
use Rattle.builder.specs.declared.Counts.{Counts}
use Rattle.builder.specs.Ran.{Ran}
use Rattle.builder.proofs.Laws.{ran_bind, ran_none}
use Rattle.vectors.specs.Elements.{bit_at, bit_elements, element_at, elements, tv_join}
use Rattle.vectors.proofs.Tables.{drop-tab, drop_all}

-- Of n elements, those from i on joined.
abbrev pub from : {A : Type 0} → (A → List A → Prog A) → (ℕ → A) → ℕ → ℕ → Prog A
from on g n i = on (g i) (drop (suc i) (tab n g))

module _ {A : Type 0} (on : A → List A → Prog A) (join : A → A → Prog A) (one : (e : A) → on e [] ≡ ret e)
    (more : (e f : A) (fs : List A) → on e (f ∷ fs) ≡ (on f fs >>= λ msb. join msb e)) (g : ℕ → A) (n : ℕ) where
  from_top : 0 < n → (calls names marks : List ℕ) (c : Counts)
      → Ran (from on g n (n - 1)) calls names marks c calls names marks c (g (n - 1))
  from_top some calls names marks c =
      rw (drop_all n (suc (n - 1)) g (omega arith), one (g (n - 1))) (ran_none (g (n - 1)) calls names marks c)

  from_turn : (i : ℕ) {calls₀ names marks calls calls₁ : List ℕ} {c₀ c c₁ : Counts} {v v₁ : A} → 0 < i → i < n
      → Ran (from on g n i) calls₀ names marks c₀ calls names marks c v
      → Ran (join v (g (i - 1))) calls names marks c calls₁ names marks c₁ v₁
      → Ran (from on g n (i - 1)) calls₀ names marks c₀ calls₁ names marks c₁ v₁
  from_turn zero above low p q = absurd (omega arith)
  from_turn (suc i) above low p q =
      rw (sub-one (suc i), drop-tab n (suc i) g low, more (g i) (g (suc i)) (drop (suc (suc i)) (tab n g)))
      (ran_bind _ p (rw (sub-one (suc i)) at q))

-- ---- bit vectors

module _ (terms : List ℕ) (n : ℕ) where
  pub bv-from_top : 0 < n → (calls names marks : List ℕ) (c : Counts)
      → Ran (from bv_concat_on (bit_at terms) n (n - 1)) calls names marks c calls names marks c (bit_at terms (n - 1))
  unfolding bv_concat_on
  bv-from_top = from_top bv_concat_on build_concat (λ e. refl) (λ e f fs. refl) (bit_at terms) n

  pub bv-from_turn : (i : ℕ) {calls₀ names marks calls calls₁ : List ℕ} {c₀ c c₁ : Counts} {v v₁ : BitVec} → 0 < i →
      i < n
      → Ran (from bv_concat_on (bit_at terms) n i) calls₀ names marks c₀ calls names marks c v
      → Ran (build_concat v (bit_at terms (i - 1))) calls names marks c calls₁ names marks c₁ v₁
      → Ran (from bv_concat_on (bit_at terms) n (i - 1)) calls₀ names marks c₀ calls₁ names marks c₁ v₁
  unfolding bv_concat_on
  bv-from_turn = from_turn bv_concat_on build_concat (λ e. refl) (λ e f fs. refl) (bit_at terms) n

pub bv-from-all : (terms : List ℕ) (n : ℕ) → 0 < n → bv_concat (bit_elements terms n) ≡ from bv_concat_on (bit_at terms) n 0
unfolding bv_concat bit_elements tab
bv-from-all terms zero some = absurd (omega arith)
bv-from-all terms (suc n) some = refl

pub bv-concat-none : (terms : List ℕ) (n : ℕ) → n ≡ 0 → (calls names marks : List ℕ) (c : Counts)
    → Ran (bv_concat (bit_elements terms n)) calls names marks c calls names marks c (bv 0 n)
unfolding bv_concat bit_elements tab
bv-concat-none terms n none calls names marks c = rw none (ran_none (bv 0 0) calls names marks c)

-- ---- trit vectors

module _ (terms : List ℕ) (n : ℕ) where
  pub tv-from_top : 0 < n → (calls names marks : List ℕ) (c : Counts)
      → Ran (from tv_concat_on (element_at terms) n (n - 1)) calls names marks c calls names marks c
      (element_at terms (n - 1))
  unfolding tv_concat_on tv_join
  tv-from_top = from_top tv_concat_on tv_join (λ e. refl) (λ e f fs. refl) (element_at terms) n

  pub tv-from_turn : (i : ℕ) {calls₀ names marks calls calls₁ : List ℕ} {c₀ c c₁ : Counts} {v v₁ : TritVec} → 0 < i →
      i < n
      → Ran (from tv_concat_on (element_at terms) n i) calls₀ names marks c₀ calls names marks c v
      → Ran (tv_join v (element_at terms (i - 1))) calls names marks c calls₁ names marks c₁ v₁
      → Ran (from tv_concat_on (element_at terms) n (i - 1)) calls₀ names marks c₀ calls₁ names marks c₁ v₁
  unfolding tv_concat_on tv_join
  tv-from_turn = from_turn tv_concat_on tv_join (λ e. refl) (λ e f fs. refl) (element_at terms) n

pub tv-from-all : (terms : List ℕ) (n : ℕ) → 0 < n → tv_concat (elements terms n) ≡ from tv_concat_on (element_at terms) n 0
unfolding tv_concat elements tab
tv-from-all terms zero some = absurd (omega arith)
tv-from-all terms (suc n) some = refl

pub tv-concat-none : (terms : List ℕ) (n : ℕ) → n ≡ 0 → (calls names marks : List ℕ) (c : Counts)
    → Ran (tv_concat (elements terms n)) calls names marks c calls names marks c (tv (bv 0 n) (bv 0 n))
unfolding tv_concat elements tab
tv-concat-none terms n none calls names marks c = rw none (ran_none (tv (bv 0 0) (bv 0 0)) calls names marks c)
