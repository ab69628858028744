-- Match's loops over the positions of an alternate and over the alternates of a pattern: what the model does from here
-- on completes its whole run. Assumes nothing.
use mathlib.Core.Path.{◌≡◌, refl}
use mathlib.Core.Bool.{Bool}
use mathlib.Core.List.{List, [], ◌∷◌}
use Prim.Native.Nat.{ℕ, suc, ◌+◌}
use native.Mathlib.Numerals.{add-one}
use lib.ListN.{drop}
use Rattle.logic.specs.Net.{Net}
use Rattle.logic.specs.declared.Trit.{Trit}
use Rattle.logic.specs.declared.Trit.TheVariants.{Zero, One, Undef}
use Rattle.smt.specs.Prog.{◌>>=◌, TritVec}
use Rattle.smt.specs.Builder.{tv_lit, tv_or, product, sum}
use Rattle.builder.specs.declared.Counts.{Counts}
use Rattle.builder.specs.Ran.{Ran}
use Rattle.builder.proofs.Laws.{ran_bind, ran_none}
use Rattle.alternates.specs.Parts.{position}

-- ---- the positions of an alternate

pub product_cons : (reads_past : ℕ → Bool) (v : Net) (nets : List Net) (t : Trit) (pattern : List Trit) (prd : TritVec)
    → product reads_past (v ∷ nets) (t ∷ pattern) prd ≡ (position reads_past v t prd >>= product reads_past nets pattern)
unfolding product position ◌>>=◌
product_cons reads_past v nets Undef pattern prd = refl
product_cons reads_past v nets Zero pattern prd = refl
product_cons reads_past v nets One pattern prd = refl

-- Positions below i are done, with this product.
pub record ProductLeft (reads_past : ℕ → Bool) (nets : List Net) (pattern : List Trit) (prd₀ : TritVec)
    (calls₀ names₀ marks₀ : List ℕ) (c₀ : Counts) (i : ℕ) (prd : TritVec) (calls names marks : List ℕ) (c : Counts)
    : Type 0 where
  pub rest : {calls' names' marks' : List ℕ} {c' : Counts} {r : TritVec}
      → Ran (product reads_past (drop i nets) (drop i pattern) prd) calls names marks c calls' names' marks' c' r
      → Ran (product reads_past nets pattern prd₀) calls₀ names₀ marks₀ c₀ calls' names' marks' c' r

module _ {reads_past : ℕ → Bool} {nets : List Net} {pattern : List Trit} {prd₀ : TritVec}
    {calls₀ names₀ marks₀ : List ℕ} {c₀ : Counts} where
  pub product-start : ProductLeft reads_past nets pattern prd₀ calls₀ names₀ marks₀ c₀ 0 prd₀ calls₀ names₀ marks₀ c₀
  product-start = record { rest = λ p. p }

  pub product_turn : (i : ℕ) (v : Net) (t : Trit) {prd prd₁ : TritVec} {calls names marks calls₁ names₁ marks₁ : List ℕ}
      {c c₁ : Counts}
      → drop i nets ≡ v ∷ drop (suc i) nets → drop i pattern ≡ t ∷ drop (suc i) pattern
      → ProductLeft reads_past nets pattern prd₀ calls₀ names₀ marks₀ c₀ i prd calls names marks c
      → Ran (position reads_past v t prd) calls names marks c calls₁ names₁ marks₁ c₁ prd₁
      → ProductLeft reads_past nets pattern prd₀ calls₀ names₀ marks₀ c₀ (i + 1) prd₁ calls₁ names₁ marks₁ c₁
  product_turn i v t {prd} net-is trit-is left p =
      rw (add-one i)
      (record {
        rest = λ q. left.rest
            (rw (net-is, trit-is, product_cons reads_past v (drop (suc i) nets) t (drop (suc i) pattern) prd)
            (ran_bind _ p q));
      })

  pub product-end : (i : ℕ) {prd : TritVec} {calls names marks : List ℕ} {c : Counts} → drop i nets ≡ []
      → ProductLeft reads_past nets pattern prd₀ calls₀ names₀ marks₀ c₀ i prd calls names marks c
      → Ran (product reads_past nets pattern prd₀) calls₀ names₀ marks₀ c₀ calls names marks c prd
  unfolding product
  product-end i {prd} {calls} {names} {marks} {c} none left = left.rest (rw none (ran_none prd calls names marks c))

-- ---- the alternates of a pattern

-- Alternates below i are done, with this sum.
pub record SumLeft (reads_past : ℕ → Bool) (nets : List Net) (alternates : List (List Trit)) (total₀ : TritVec)
    (calls₀ names₀ marks₀ : List ℕ) (c₀ : Counts) (i : ℕ) (total : TritVec) (calls names marks : List ℕ) (c : Counts)
    : Type 0 where
  pub rest : {calls' names' marks' : List ℕ} {c' : Counts} {r : TritVec}
      → Ran (sum reads_past nets (drop i alternates) total) calls names marks c calls' names' marks' c' r
      → Ran (sum reads_past nets alternates total₀) calls₀ names₀ marks₀ c₀ calls' names' marks' c' r

module _ {reads_past : ℕ → Bool} {nets : List Net} {alternates : List (List Trit)} {total₀ : TritVec}
    {calls₀ names₀ marks₀ : List ℕ}
    {c₀ : Counts} where
  pub sum-start : SumLeft reads_past nets alternates total₀ calls₀ names₀ marks₀ c₀ 0 total₀ calls₀ names₀ marks₀ c₀
  sum-start = record { rest = λ p. p }

  pub sum_turn : (i : ℕ) (pattern : List Trit) {total one prd total₁ : TritVec}
      {calls names marks calls₁ names₁ marks₁ calls₂ names₂ marks₂ calls₃ names₃ marks₃ : List ℕ} {c c₁ c₂ c₃ : Counts}
      → drop i alternates ≡ pattern ∷ drop (suc i) alternates
      → SumLeft reads_past nets alternates total₀ calls₀ names₀ marks₀ c₀ i total calls names marks c
      → Ran (tv_lit (One ∷ [])) calls names marks c calls₁ names₁ marks₁ c₁ one
      → Ran (product reads_past nets pattern one) calls₁ names₁ marks₁ c₁ calls₂ names₂ marks₂ c₂ prd
      → Ran (tv_or total prd 1) calls₂ names₂ marks₂ c₂ calls₃ names₃ marks₃ c₃ total₁
      → SumLeft reads_past nets alternates total₀ calls₀ names₀ marks₀ c₀ (i + 1) total₁ calls₃ names₃ marks₃ c₃
  unfolding sum
  sum_turn i pattern pattern-is left p q o =
      rw (add-one i)
      (record { rest = λ r. left.rest (rw pattern-is (ran_bind _ p (ran_bind _ q (ran_bind _ o r)))) })

  pub sum-end : (i : ℕ) {total : TritVec} {calls names marks : List ℕ} {c : Counts} → drop i alternates ≡ []
      → SumLeft reads_past nets alternates total₀ calls₀ names₀ marks₀ c₀ i total calls names marks c
      → Ran (sum reads_past nets alternates total₀) calls₀ names₀ marks₀ c₀ calls names marks c total
  unfolding sum
  sum-end i {total} {calls} {names} {marks} {c} none left = left.rest (rw none (ran_none total calls names marks c))
