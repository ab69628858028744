-- Loops whose model runs forward. Kept in a turn: if the rest is run from here, the whole was run from the start.
-- Assumes nothing.
use mathlib.Core.List.{List}
use Prim.Native.Nat.{ℕ, zero, suc, ◌-◌, ◌<◌}
use native.Mathlib.Omega.{arith}
use native.Mathlib.Numerals.{sub-one}
use Rattle.smt.specs.Prog.{TritVec}
use Rattle.smt.specs.Builder.{tv_extract, tv_lit, tv_mux, one_hot, first_match}
use Rattle.builder.specs.declared.Counts.{Counts}
use Rattle.builder.specs.Ran.{Ran}
use Rattle.builder.proofs.Laws.{ran_bind, ran_none}

-- ---- Match's first pattern

-- The patterns from `index` on are done, with this result.
pub record MatchLeft (matches : TritVec) (k : ℕ) (cold : TritVec) (calls₀ : List ℕ) (c₀ : Counts) (names marks : List ℕ)
    (index : ℕ) (v : TritVec) (calls : List ℕ) (c : Counts) : Type 0 where
  pub rest : {calls' : List ℕ} {c' : Counts} {r : TritVec}
      → Ran (first_match matches k index v) calls names marks c calls' names marks c' r
      → Ran (first_match matches k k cold) calls₀ names marks c₀ calls' names marks c' r

module _ {matches : TritVec} {k : ℕ} {cold : TritVec} {calls₀ : List ℕ} {c₀ : Counts} {names marks : List ℕ} where
  pub match-start : MatchLeft matches k cold calls₀ c₀ names marks k cold calls₀ c₀
  match-start = record { rest = λ p. p }

  pub match_turn : (index : ℕ) {s hot v v₁ : TritVec} {calls calls₁ calls₂ calls₃ : List ℕ} {c c₁ c₂ c₃ : Counts} →
      0 < index
      → MatchLeft matches k cold calls₀ c₀ names marks index v calls c
      → Ran (tv_extract (index - 1) (index - 1) matches) calls names marks c calls₁ names marks c₁ s
      → Ran (tv_lit (one_hot k (index - 1))) calls₁ names marks c₁ calls₂ names marks c₂ hot
      → Ran (tv_mux s hot v k) calls₂ names marks c₂ calls₃ names marks c₃ v₁
      → MatchLeft matches k cold calls₀ c₀ names marks (index - 1) v₁ calls₃ c₃
  unfolding first_match
  match_turn zero above left p q o = absurd (omega arith)
  match_turn (suc index) above left p q o = record {
    rest = λ r. left.rest (ran_bind _ (rw (sub-one (suc index)) at p)
        (ran_bind _ (rw (sub-one (suc index)) at q) (ran_bind _ o (rw (sub-one (suc index)) at r))));
  }

  pub match-end : {v : TritVec} {calls : List ℕ} {c : Counts}
      → MatchLeft matches k cold calls₀ c₀ names marks 0 v calls c
      → Ran (first_match matches k k cold) calls₀ names marks c₀ calls names marks c v
  unfolding first_match
  match-end {v} {calls} {c} left = left.rest (ran_none v calls names marks c)
