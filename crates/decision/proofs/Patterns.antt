-- The places of a Match's patterns: within the bounds of an accepted list they are small. Assumes nothing.
use mathlib.Core.Path.{◌≡◌, refl, ap, ◌∙◌}
use mathlib.Core.List.{List, [], ◌∷◌}
use Prim.Native.Nat.{ℕ, zero, suc, ◌+◌, ◌*◌, ◌-◌, ◌<◌, ◌≤◌, ◌^◌, min}
use native.Mathlib.Nat.{mul-le-mul}
use native.Mathlib.Numerals.{add-one}
use native.Mathlib.Omega.{arith}
use lib.ListN.{length, drop}
use lib.Seq.{drop-drop}
use Rattle.logic.proofs.TableLaws.{length-tab}
use Rattle.logic.specs.declared.Trit.{Trit}
use Rattle.cell.specs.declared.Operation.TheVariants as O
use Rattle.cell.specs.Each.{Each}
use Rattle.right.specs.Bounds.{Bounded}
use Rattle.cell_reader.specs.Parse.{number_in, net_in, trits_in, patterns_in, cell_in}
use Rattle.alternates.specs.Parts.{alternates_in}

-- ---- the bounds of a Match

-- Alternates ≤ 64.
abbrev pub Few : List (List (List Trit)) → Type 0
Few patterns = Each (λ (alternates : List (List Trit)). length alternates ≤ 64) patterns

pub length-patterns : (w : List ℕ) (n k at : ℕ) → length (patterns_in w n k at) ≡ k
unfolding patterns_in
length-patterns w n zero at = refl
length-patterns w n (suc k) at = ap suc (length-patterns w n k (at + 1 + number_in w at * n))

pub record MatchBounds (w : List ℕ) : Type 0 where
  pub nets : number_in w 0 ≤ 63
  pub patterns : number_in w 1 ≤ 63
  pub few : Few (patterns_in w (number_in w 0) (number_in w 1) (3 + number_in w 0))

pub match-bounds : (w : List ℕ) → Bounded (cell_in w O.Match 0) → MatchBounds w
match-bounds w bounded = record {
  nets = omega (arith, bounded.0, length-tab (number_in w 0) (λ i. net_in w (3 + i)));
  patterns = omega (arith, bounded.1, length-patterns w (number_in w 0) (number_in w 1) (3 + number_in w 0));
  few = bounded.2;
}

-- ---- the patterns from a place on

patterns_cons : (w : List ℕ) (n k at : ℕ)
    → patterns_in w n (suc k) at ≡ alternates_in w n at ∷ patterns_in w n k (at + 1 + number_in w at * n)
unfolding patterns_in
patterns_cons w n k at = refl

-- While one is left.
patterns-left : (w : List ℕ) (n k i at : ℕ) → i < k
    → patterns_in w n (k - i) at ≡ alternates_in w n at ∷ patterns_in w n (k - (i + 1)) (at + 1 + number_in w at * n)
patterns-left w n k i at low =
    let more : k - i ≡ suc (k - (i + 1)) = omega arith in rw more (patterns_cons w n (k - (i + 1)) at)

-- Of k patterns from a start on, i lie before this place.
pub record Reached (w : List ℕ) (n k start i place : ℕ) : Type 0 where
  pub rest : drop i (patterns_in w n k start) ≡ patterns_in w n (k - i) place
  pub few : Few (patterns_in w n (k - i) place)
  pub low : place ≤ 66 + i * 4033

module _ {w : List ℕ} {n k start : ℕ} where
  pub reached_start : start ≤ 66 → Few (patterns_in w n k start) → Reached w n k start 0 start
  reached_start low few =
      let all : k - 0 ≡ k = omega arith in
      record { rest = rw all; few = rw all few; low = omega arith }

  -- A pattern's words are few.
  reached_words : {i place : ℕ} → i < k → n ≤ 63 → Reached w n k start i place → number_in w place * n ≤ 4032
  reached_words {i} {place} low small here =
      let few : Few (alternates_in w n place ∷ patterns_in w n (k - (i + 1)) (place + 1 + number_in w place * n)) =
      rw (patterns-left w n k i place low) at here.few in
      let count : number_in w place ≤ 64 =
      omega (arith, few.0, length-tab (number_in w place) (λ j. trits_in w n (place + 1 + j * n))) in
      mul-le-mul count small

  pub reached_room : {i place : ℕ} → i < k → n ≤ 63 → k ≤ 63 → Reached w n k start i place
      → place + 1 + number_in w place * n < 2 ^ 32
  reached_room low small short here = omega (arith, reached_words low small here, here.low)

  pub reached_next : {i place : ℕ} → i < k → Reached w n k start i place
      → drop i (patterns_in w n k start) ≡ alternates_in w n place ∷ drop (suc i) (patterns_in w n k start)
  reached_next {i} {place} low here =
      let cons = here.rest ∙ patterns-left w n k i place low in
      rw (← add-one i, ← drop-drop 1 i (patterns_in w n k start), cons)

  pub reached_turn : {i place : ℕ} (next : ℕ) → i < k → n ≤ 63 → k ≤ 63 → Reached w n k start i place
      → next ≡ min (place + 1 + number_in w place * n) 4294967295 → Reached w n k start (i + 1) next
  reached_turn {i} {place} next low small short here next-is =
      let cons = here.rest ∙ patterns-left w n k i place low in
      let words = reached_words low small here in
      let exact : next ≡ place + 1 + number_in w place * n = omega (arith, here.low) in
      let few : Few (alternates_in w n place ∷ patterns_in w n (k - (i + 1)) (place + 1 + number_in w place * n)) =
      rw (patterns-left w n k i place low) at here.few in
      record {
        rest = rw (← drop-drop 1 i (patterns_in w n k start), cons, exact);
        few = rw exact few.1;
        low = omega (arith, here.low);
      }

  pub reached_end : {i place : ℕ} → k ≤ i → Reached w n k start i place → drop i (patterns_in w n k start) ≡ []
  unfolding patterns_in
  reached_end {i} {place} all here =
      let none : k - i ≡ 0 = omega arith in here.rest ∙ rw none
