-- Laws of the search for the nodes that are ready at the start, number by number. Assumes nothing.
use mathlib.Core.Path.{◌≡◌, refl}
use mathlib.Core.Bool.{Bool, true, false, ◌&&◌, ◌||◌}
use mathlib.Core.List.{List}
use Prim.Native.Nat.{ℕ, ◌+◌, ◌<◌}
use native.Mathlib.Omega.{arith}
use native.Mathlib.Decide.{ℕ_discrete, dec_lt}
use lib.ListN.{get_or, length}
use borrow.Author.Tests.{eq-eqb, ne_eqb, lt-ltb, le-ltb}
use Rattle.loops.specs.Edges.{done_in}
use Rattle.lowest_set.specs.Tree.{Holds}
use Rattle.topological.specs.State.{Words, Counts, ready_by, joined, up_to}
use Rattle.topological.proofs.Tables.{holds_same}
use Rattle.topological.proofs.Ready.{undone-low}

module _ (members : ℕ → Bool) where
  -- There is no number below 0.
  pub none_yet : (b : ℕ) → false ≡ up_to 0 members b
  unfolding up_to
  none_yet b = rw (le-ltb b 0 (omega arith))

  -- One number more.
  pub one_further : (k b : ℕ) → joined (up_to k members) (members k) k b ≡ up_to (k + 1) members b
  unfolding up_to joined
  one_further k b = go (ℕ_discrete b k) (dec_lt b k)
    where
      own : (m : Bool) → ((m && true) || false) ≡ m
      own true = refl
      own false = refl

      other : (m r : Bool) → ((m && false) || r) ≡ r
      other true r = refl
      other false r = refl

      go : Dec (b ≡ k) → Dec (b < k) → joined (up_to k members) (members k) k b ≡ up_to (k + 1) members b
      go (yes e) l =
          rw (e, eq-eqb k k refl, le-ltb k k (omega arith), lt-ltb k (k + 1) (omega arith)) (own (members k))
      go (no d) (yes l) =
          rw (ne_eqb b k d, lt-ltb b k l, lt-ltb b (k + 1) (omega arith)) (other (members k) (members b))
      go (no d) (no l) =
          rw (ne_eqb b k d, le-ltb b k (omega arith), le-ltb b (k + 1) (omega arith)) (other (members k) false)

-- Past the flags there is no node.
pub all_seen : (flags : List ℕ) (left : ℕ → ℕ) (b : ℕ)
    → up_to (length flags) (ready_by (done_in flags) left) b ≡ ready_by (done_in flags) left b
unfolding up_to ready_by
all_seen flags left b = go (dec_lt b (length flags)) (done_in flags b) refl
  where
    go : Dec (b < length flags) → (d : Bool) → done_in flags b ≡ d
        → up_to (length flags) (ready_by (done_in flags) left) b ≡ ready_by (done_in flags) left b
    go (yes l) d e = rw (lt-ltb b (length flags) l)
    go (no n) true e = rw (le-ltb b (length flags) (omega arith), e)
    go (no n) false e = absurd (n (undone-low flags b e))

-- The set by the words of the table is the set by what they count.
pub counts_start : {flags waits tree : List ℕ} {left : ℕ → ℕ} → Words waits left
    → Holds tree (ready_by (done_in flags) (λ i. get_or waits i 0)) → Counts flags left waits tree
unfolding ready_by
counts_start w h = record { words = w; ready = holds_same h (λ b l. rw (w.at b l)) }
