-- A loop that runs one program after the other (`collect`), front to back: its invariant is that if the rest is run
-- from here, then the whole was run from the start. Assumes nothing.
use mathlib.Core.Path.{◌≡◌}
use mathlib.Core.List.{List, [], ◌∷◌, ◌++◌, append_assoc, append-nil}
use Prim.Native.Nat.{ℕ, suc, ◌+◌, ◌<◌, ◌≤◌}
use native.Mathlib.Numerals.{add-one}
use lib.ListN.{drop}
use Rattle.cell_reader.specs.Parse.{net_in, nets_in}
use Rattle.smt.specs.Prog.{Prog}
use Rattle.smt.specs.Builder.{collect}
use Rattle.builder.specs.declared.Counts.{Counts}
use Rattle.builder.specs.Ran.{Ran}
use Rattle.builder.proofs.Laws.{ran_bind, ran_ret, ran_none}
use Rattle.vectors.proofs.Tables.{drop-tab, drop_all}

pub record Left {A B : Type 0} (f : A → Prog B) (list : List A) (i : ℕ) (calls₀ names₀ marks₀ : List ℕ) (c₀ : Counts)
    (calls names marks : List ℕ) (c : Counts) (done : List B) : Type 0 where
  pub rest : {calls' names' marks' : List ℕ} {c' : Counts} {more : List B}
      → Ran (collect f (drop i list)) calls names marks c calls' names' marks' c' more
      → Ran (collect f list) calls₀ names₀ marks₀ c₀ calls' names' marks' c' (done ++ more)

module _ {A B : Type 0} (f : A → Prog B) (list : List A) {calls₀ names₀ marks₀ : List ℕ} {c₀ : Counts} where
  pub left-start : Left f list 0 calls₀ names₀ marks₀ c₀ calls₀ names₀ marks₀ c₀ []
  left-start = record { rest = λ p. p }

  pub left_turn : (i : ℕ) (a : A) {calls names marks calls₁ names₁ marks₁ : List ℕ} {c c₁ : Counts}
      {done : List B} {b : B}
      → drop i list ≡ a ∷ drop (suc i) list
      → Left f list i calls₀ names₀ marks₀ c₀ calls names marks c done
      → Ran (f a) calls names marks c calls₁ names₁ marks₁ c₁ b
      → Left f list (i + 1) calls₀ names₀ marks₀ c₀ calls₁ names₁ marks₁ c₁ (done ++ (b ∷ []))
  unfolding collect
  left_turn i a {done = done} {b = b} next left p =
      rw (add-one i)
      (record { rest = λ q. rw (append_assoc done (b ∷ []) _) (left.rest (rw next (ran_bind _ p (ran_ret _ q)))) })

  pub left_end : (i : ℕ) {calls names marks : List ℕ} {c : Counts} {done : List B}
      → drop i list ≡ [] → Left f list i calls₀ names₀ marks₀ c₀ calls names marks c done
      → Ran (collect f list) calls₀ names₀ marks₀ c₀ calls names marks c done
  unfolding collect
  left_end i {calls} {names} {marks} {c} {done} none left =
      let whole : Ran (collect f list) calls₀ names₀ marks₀ c₀ calls names marks c (done ++ []) =
      left.rest (rw none (ran_none [] calls names marks c)) in
      rw (append-nil done) at whole

-- ---- the nets of some words

pub nets-next : (w : List ℕ) (n at i : ℕ) → i < n
    → drop i (nets_in w n at) ≡ net_in w (at + i) ∷ drop (suc i) (nets_in w n at)
nets-next w n at i low = drop-tab n i _ low

pub nets-end : (w : List ℕ) (n at i : ℕ) → n ≤ i → drop i (nets_in w n at) ≡ []
nets-end w n at i high = drop_all n i _ high
