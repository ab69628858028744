-- The loop over the positions, whose model runs forward. Kept in a turn: if the rest is run from here, the whole was
-- run from the start. Assumes nothing.
use mathlib.Core.Path.{◌≡◌}
use mathlib.Core.List.{List, [], ◌∷◌, ◌++◌, append_assoc}
use Prim.Native.Nat.{ℕ, suc, ◌+◌, ◌-◌, ◌<◌}
use native.Mathlib.Omega.{arith}
use native.Mathlib.Numerals.{add-one}
use Rattle.smt.specs.Prog.{ret, ◌>>=◌, BitVec, TritVec}
use Rattle.smt.specs.Builder.{carry_x}
use Rattle.builder.specs.declared.Counts.{Counts}
use Rattle.builder.specs.Ran.{Ran}
use Rattle.builder.proofs.Laws.{ran_bind, ran_ret, ran_none}
use Rattle.adc.specs.Parts.{carry_one}

-- ---- Adc's carries

-- Positions below `index` are done, with these carries.
pub record CarryLeft (a b : TritVec) (n : ℕ) (carry₀ : BitVec) (calls₀ : List ℕ) (c₀ : Counts) (names marks : List ℕ)
    (index : ℕ) (carry : BitVec) (done : List BitVec) (calls : List ℕ) (c : Counts) : Type 0 where
  pub rest : {calls' : List ℕ} {c' : Counts} {xs : List BitVec}
      → Ran (carry_x a b (n - index) index carry) calls names marks c calls' names marks c' xs
      → Ran (carry_x a b n 0 carry₀) calls₀ names marks c₀ calls' names marks c' (done ++ xs)

module _ {a b : TritVec} {n : ℕ} {carry₀ : BitVec} {calls₀ : List ℕ} {c₀ : Counts} {names marks : List ℕ} where
  pub carry_start : CarryLeft a b n carry₀ calls₀ c₀ names marks 0 carry₀ [] calls₀ c₀
  carry_start = record { rest = λ p. let all : n - 0 ≡ n = omega arith in rw all at p }

  pub carry_turn : {index : ℕ} {carry carry₁ : BitVec} {done : List BitVec} {calls calls₁ : List ℕ} {c c₁ : Counts} →
      index < n
      → CarryLeft a b n carry₀ calls₀ c₀ names marks index carry done calls c
      → Ran (carry_one a b index carry) calls names marks c calls₁ names marks c₁ carry₁
      → CarryLeft a b n carry₀ calls₀ c₀ names marks (index + 1) carry₁ (done ++ (carry₁ ∷ [])) calls₁ c₁
  unfolding carry_x carry_one ◌>>=◌
  carry_turn {index} {carry} {carry₁} {done} {calls} {calls₁} {c} {c₁} low left p =
      record { rest = λ {xs = xs} q. rw (append_assoc done (carry₁ ∷ []) xs) (left.rest (one q)) }
    where
      one : {calls' : List ℕ} {c' : Counts} {xs : List BitVec}
          → Ran (carry_x a b (n - (index + 1)) (index + 1) carry₁) calls₁ names marks c₁ calls' names marks c' xs
          → Ran (carry_x a b (n - index) index carry) calls names marks c calls' names marks c' (carry₁ ∷ xs)
      one q =
          let more : n - index ≡ suc (n - suc index) = omega arith in
          rw more (ran_bind (λ k. carry_x a b (n - suc index) (suc index) k >>= (λ xs. ret (k ∷ xs))) p
          (ran_ret (λ xs. carry₁ ∷ xs) (rw (add-one index) at q)))

  pub carry_end : {index : ℕ} {carry : BitVec} {done : List BitVec} {calls : List ℕ} {c : Counts} → index ≡ n
      → CarryLeft a b n carry₀ calls₀ c₀ names marks index carry done calls c
      → Ran (carry_x a b n 0 carry₀) calls₀ names marks c₀ calls names marks c (done ++ (carry ∷ []))
  unfolding carry_x
  carry_end {index} {carry} {done} {calls} {c} all left = left.rest none
    where
      none : Ran (carry_x a b (n - index) index carry) calls names marks c calls names marks c (carry ∷ [])
      none = let more : n - index ≡ 0 = omega arith in rw more (ran_none (carry ∷ []) calls names marks c)
