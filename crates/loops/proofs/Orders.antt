-- The order in which the lowest ready node is always next: what is done at each turn is what stands before, so that
-- each node stands after all that it reads, and is the lowest of those of which this holds.
use mathlib.Core.Path.{◌≡◌, refl, sym, ◌∙◌}
use mathlib.Core.Bool.{Bool, true, false, not, ◌&&◌, true≢false}
use mathlib.Core.Option.{Option, none, some}
use mathlib.Core.List.{List, [], ◌∷◌}
use Prim.Native.Nat.{ℕ, zero, suc, ◌≤◌, ◌<◌}
use native.Mathlib.Omega.{arith}
use native.Mathlib.Decide.{ℕ_discrete}
use lib.ListN.{get_or, length, take}
use lib.Seq.{take-length}
use Rattle.working_out.specs.Order.{is_some, lowest}
use Rattle.working_out.specs.Graph.{mark, undone}
use Rattle.working_out.specs.Graph as g
use Rattle.working_out.proofs.OrderLaws.{none_of, not-false, lowest-some, lowest-none}
use Rattle.working_out.proofs.GraphLaws.{mark-same, mark-other, mark_keeps, both, Ready, ready-is}
use Rattle.loops.specs.Is.{Among, Distinct, IsOrder}
use Rattle.loops.proofs.LowestLaws.{lowest_le}

module _ (N : ℕ) (reads : ℕ → ℕ → Bool) where
  -- Each of a list is the lowest ready one when its turn comes.
  abbrev pub Taken : (ℕ → Bool) → List ℕ → Type 0
  Taken done [] = Unit {0}
  Taken done (a ∷ l) = (g.lowest_ready N reads done ≡ some a) × Taken (mark done a) l

  -- The order takes them so.
  pub order_taken : (k : ℕ) (done : ℕ → Bool) → Taken done (g.order N reads k done)
  unfolding g.order
  order_taken zero done = tt
  order_taken (suc k) done = go (λ a. order_taken k (mark done a)) (g.lowest_ready N reads done) refl
    where
      go : ((a : ℕ) → Taken (mark done a) (g.order N reads k (mark done a))) → (o : Option ℕ)
          → g.lowest_ready N reads done ≡ o → Taken done (g.order N reads (suc k) done)
      go rec none e = rw e tt
      go rec (some a) e = rw e (e, rec a)

  -- What is done when the k-th of a list has its turn.
  abbrev pub done_at : (ℕ → Bool) → List ℕ → ℕ → ℕ → Bool
  done_at done l k = g.mark_all N reads done (take k l)

  -- The k-th is the lowest ready one when its turn comes.
  pub turn : (l : List ℕ) (done : ℕ → Bool) → Taken done l → (k : ℕ) → k < length l
      → g.lowest_ready N reads (done_at done l k) ≡ some (get_or l k 0)
  unfolding g.mark_all
  turn [] done t k h = absurd (omega arith)
  turn (a ∷ l) done t zero h = t.0
  turn (a ∷ l) done t (suc k) h = turn l (mark done a) t.1 k (omega arith)

  -- What was done stays done.
  pub marks_keep : (l : List ℕ) (done : ℕ → Bool) (b : ℕ) → done b ≡ true → g.mark_all N reads done l b ≡ true
  unfolding g.mark_all
  marks_keep [] done b d = d
  marks_keep (a ∷ l) done b d = marks_keep l (mark done a) b (mark_keeps done a b d)

  -- What stands before is done.
  pub among-done : (l : List ℕ) (done : ℕ → Bool) (k b : ℕ) → k ≤ length l → Among l k b → done_at done l k b ≡ true
  unfolding g.mark_all
  among-done [] done k b h (j, (l, e)) = absurd (omega arith)
  among-done (a ∷ l) done zero b h (j, (i, e)) = absurd (omega arith)
  among-done (a ∷ l) done (suc k) b h (zero, (i, e)) =
      marks_keep (take k l) (mark done a) b (rw e (mark-same done b))
  among-done (a ∷ l) done (suc k) b h (suc j, (i, e)) =
      among-done l (mark done a) k b (omega arith) (j, (omega arith, e))

  -- What is done, and was not at the start, stands before.
  pub done-among : (l : List ℕ) (done : ℕ → Bool) (k b : ℕ) → done b ≡ false → done_at done l k b ≡ true → Among l k b
  unfolding g.mark_all
  done-among [] done zero b n d = absurd (true≢false (sym d ∙ n))
  done-among [] done (suc k) b n d = absurd (true≢false (sym d ∙ n))
  done-among (a ∷ l) done zero b n d = absurd (true≢false (sym d ∙ n))
  done-among (a ∷ l) done (suc k) b n d = go (ℕ_discrete b a) (λ m. done-among l (mark done a) k b m d)
    where
      go : Dec (b ≡ a) → (mark done a b ≡ false → Among l k b) → Among (a ∷ l) (suc k) b
      go (yes p) rec = (0, (omega arith, sym p))
      go (no p) rec = let m = rec (mark-other done a b p ∙ n) in (suc m.0, (let i = m.1.0 in omega arith, m.1.1))

  -- A node that is not done, and reads only what is done, is ready.
  pub is-ready : (done : ℕ → Bool) (a : ℕ) → done a ≡ false → ((b : ℕ) → reads a b ≡ true → done b ≡ true)
      → g.is_ready N reads done a ≡ true
  unfolding g.lacks
  is-ready done a n has = rw n (go (g.lacks N reads done a) refl)
    where
      go : (o : Option ℕ) → g.lacks N reads done a ≡ o → not (is_some o) ≡ true
      go none e = refl
      go (some b) e =
          let f = lowest-some N (λ b. reads a b && not (done b)) b e in
          let s = both N reads (reads a b) (done b) f.holds in
          absurd (true≢false (sym (has b s.0) ∙ s.1))

  -- At the start just the numbers that are no nodes are done; only nodes are read.
  module _ (node : ℕ → Bool) (low : (a : ℕ) → node a ≡ true → a < N)
      (read : (a b : ℕ) → reads a b ≡ true → node b ≡ true) where
    abbrev starts : ℕ → Bool
    starts a = not (node a)

    module _ (l : List ℕ) (taken : Taken starts l) where
      -- Each of the list is ready when its turn comes.
      ready : (k : ℕ) → k < length l → Ready N reads (done_at starts l k) (get_or l k 0)
      ready k h = ready-is N reads (done_at starts l k) (get_or l k 0) (turn l starts taken k h)

      -- A node that is done stands before.
      stands : (k a : ℕ) → node a ≡ true → done_at starts l k a ≡ true → Among l k a
      stands k a n d = done-among l starts k a (rw n) d

      -- What is not done is a node; a node that does not stand before is not done.
      undone_node : (k a : ℕ) → done_at starts l k a ≡ false → node a ≡ true
      undone_node k a n = go (node a) refl
        where
          go : (t : Bool) → node a ≡ t → t ≡ true
          go true e = refl
          go false e = absurd (true≢false (sym (marks_keep (take k l) starts a (rw e)) ∙ n))

      not-before : (k a : ℕ) → node a ≡ true → (Among l k a → ⊥) → done_at starts l k a ≡ false
      not-before k a n out = go (done_at starts l k a) refl
        where
          go : (t : Bool) → done_at starts l k a ≡ t → t ≡ false
          go true e = absurd (out (stands k a n e))
          go false e = refl

      -- The list is the order of the nodes, where all get done by it.
      pub taken_order : ((a : ℕ) → a < N → g.mark_all N reads starts l a ≡ true) → IsOrder reads node l
      unfolding g.lowest_ready
      taken_order done = record { only = only; all = all; once = once; after = after; lowest = least }
        where
          only : (k : ℕ) → k < length l → node (get_or l k 0) ≡ true
          only k h = undone_node k (get_or l k 0) (ready k h).not_done

          all : (a : ℕ) → node a ≡ true → Among l (length l) a
          all a n = stands (length l) a n (rw (take-length l) (done a (low a n)))

          once : Distinct l
          once i j h k e =
              let d = among-done l starts j (get_or l j 0) (omega arith) (i, (h, e)) in
              true≢false (sym d ∙ (ready j k).not_done)

          after : (k b : ℕ) → k < length l → reads (get_or l k 0) b ≡ true → Among l k b
          after k b h r = let n = read (get_or l k 0) b r in stands k b n ((ready k h).has b (low b n) r)

          least : (k a : ℕ) → k < length l → node a ≡ true → (Among l k a → ⊥)
              → ((b : ℕ) → reads a b ≡ true → Among l k b) → get_or l k 0 ≤ a
          least k a h n out has =
              let before : (b : ℕ) → reads a b ≡ true → done_at starts l k b ≡ true =
              λ b r. among-done l starts k b (omega arith) (has b r) in
              lowest_le N (g.is_ready N reads (done_at starts l k)) (get_or l k 0) (turn l starts taken k h) a
              (is-ready (done_at starts l k) a (not-before k a n out) before)

    -- Where no node is left that never gets ready, the order is one of all nodes.
    pub order_is : is_some (g.never_ready N reads starts) ≡ false
        → IsOrder reads node (g.order N reads (undone N starts) starts)
    unfolding g.never_ready
    order_is e =
        let whole = g.order N reads (undone N starts) starts in
        taken_order whole (order_taken (undone N starts) starts)
        (λ a l. not-false (g.mark_all N reads starts whole a)
        (lowest-none N _ (none_of (g.never_ready N reads starts) e) a l))
