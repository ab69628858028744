-- Laws of the turns in which the order is written: the lowest ready node is first, then the order of what is left.
-- Assumes nothing.
use mathlib.Core.Path.{◌≡◌, refl, sym, ◌∙◌, ap, fun_ext}
use mathlib.Core.Bool.{Bool, true, false, cond}
use mathlib.Core.Option.{Option, none, some}
use mathlib.Core.List.{List, [], ◌∷◌}
use Prim.Native.Nat.{ℕ, zero, suc, ◌+◌, ◌≤◌, ◌<◌}
use native.Mathlib.Omega.{arith}
use native.Mathlib.Numerals.{add-one}
use lib.ListN.{length, set, length-set}
use lib.Seq.{sets}
use Rattle.working_out.specs.Order.{option, lowest}
use Rattle.working_out.specs.Graph.{mark, undone, is_ready, lowest_ready, order}
use Rattle.working_out.proofs.GraphLaws.{ready-is, undone-mark}
use Rattle.loops.specs.Edges.{has_edge, done_in, clear_all, order_in}
use Rattle.std.specs.Prelude.{Some, None}
use Rattle.std.specs.Prelude as std
use Rattle.lowest_set.specs.Tree.{Holds, lowest_of}
use Rattle.topological.specs.Waiting.{waiting}
use Rattle.topological.specs.State.{Counts, ready_by}
use Rattle.topological.specs.Sorted.{Sorted}
use Rattle.topological.proofs.Ready.{undone-low, ready-same, lowest-more}
use Rattle.topological.proofs.Settling.{flag_cleared}

module _ (N : ℕ) (reads : ℕ → ℕ → Bool) where
  -- With steps for all that are not done, the order starts with the lowest ready one.
  order-some : (done : ℕ → Bool) (a : ℕ) → lowest_ready N reads done ≡ some a
      → order N reads (undone N done) done ≡ a ∷ order N reads (undone N (mark done a)) (mark done a)
  unfolding order
  order-some done a e =
      let ready = ready-is N reads done a e in
      rw (← undone-mark N done a ready.low ready.not_done, e)

  -- Where none is ready, the order is at its end.
  order-none : (k : ℕ) (done : ℕ → Bool) → lowest_ready N reads done ≡ none → order N reads k done ≡ []
  unfolding order
  order-none zero done e = refl
  order-none (suc k) done e = rw e

  -- The order has no more nodes than steps.
  order-short : (k : ℕ) (done : ℕ → Bool) → length (order N reads k done) ≤ k
  unfolding order
  order-short zero done = omega arith
  order-short (suc k) done = go (lowest_ready N reads done) (λ a. order-short k (mark done a))
    where
      go : (o : Option ℕ) → ((a : ℕ) → length (order N reads k (mark done a)) ≤ k)
          → length (option o [] (λ a. a ∷ order N reads k (mark done a))) ≤ suc k
      go none rec = omega arith
      go (some a) rec = omega (arith, rec a)

-- There are no more nodes that are not done than numbers.
undone_le : (n : ℕ) (done : ℕ → Bool) → undone n done ≤ n
unfolding undone
undone_le zero done = omega arith
undone_le (suc n) done = go (done n) (undone_le n done)
  where
    go : (b : Bool) → undone n done ≤ n → cond b 0 1 + undone n done ≤ suc n
    go true rec = omega arith
    go false rec = omega arith

-- There are no more turns than flags.
order-fits : (edges flags : List ℕ) → length (order_in edges flags) ≤ length flags
order-fits edges flags =
    omega (
      arith,
      order-short (length flags) (has_edge edges) (undone (length flags) (done_in flags)) (done_in flags),
      undone_le (length flags) (done_in flags),
    )

module _ (edges flags : List ℕ) (few : length flags ≤ 4096) where
  -- The lowest of the set is the lowest ready node.
  lowest-is-ready : lowest 4096 (ready_by (done_in flags) (waiting edges (done_in flags) (length edges)))
      ≡ lowest_ready (length flags) (has_edge edges) (done_in flags)
  unfolding lowest_ready
  lowest-is-ready =
      rw (fun_ext (ready-same edges flags few))
      (lowest-more (length flags) 4096 (is_ready (length flags) (has_edge edges) (done_in flags)) few
      (λ a past. go a past (done_in flags a) refl))
    where
      go : (a : ℕ) → length flags ≤ a → (d : Bool) → done_in flags a ≡ d
          → is_ready (length flags) (has_edge edges) (done_in flags) a ≡ false
      go a past true e = rw e
      go a past false e = absurd (omega (arith, undone-low flags a e))

  -- A turn: the lowest ready node is a number, and not done, and the order is that node and the order without it.
  pub record Turn (a : ℕ) : Type 0 where
    pub low : a < 4096
    pub undone : done_in flags a ≡ false
    pub rest : order_in edges flags ≡ a ∷ order_in edges (set flags a 0)

  -- The lowest of the set, where it has one, is the node of the turn.
  turn_is : (a : ℕ) → Some a ≡ lowest_of (ready_by (done_in flags) (waiting edges (done_in flags) (length edges)))
      → Turn a
  turn_is a e = go (lowest_ready (length flags) (has_edge edges) (done_in flags)) refl (rw lowest-is-ready at e)
    where
      go : (o : Option ℕ) → lowest_ready (length flags) (has_edge edges) (done_in flags) ≡ o
          → Some a ≡ option o None Some → Turn a
      go none f g = cc
      go (some b) f g =
          let same : a ≡ b = cc in
          let ready = ready-is (length flags) (has_edge edges) (done_in flags) a (rw same f) in
          record {
            low = omega (arith, ready.low);
            undone = ready.not_done;
            rest =
                rw (length-set flags a 0, flag_cleared flags a)
                (order-some (length flags) (has_edge edges) (done_in flags) a (rw same f));
          }

  -- No node is ready: nothing of the order is left.
  order-end : None ≡ lowest_of (ready_by (done_in flags) (waiting edges (done_in flags) (length edges)))
      → order_in edges flags ≡ []
  order-end e = go (lowest_ready (length flags) (has_edge edges) (done_in flags)) refl (rw lowest-is-ready at e)
    where
      go : (o : Option ℕ) → lowest_ready (length flags) (has_edge edges) (done_in flags) ≡ o
          → None ≡ option o None Some → order_in edges flags ≡ []
      go none f g = order-none (length flags) (has_edge edges) (undone (length flags) (done_in flags)) (done_in flags) f
      go (some b) f g = cc

-- Between two turns: what is written, cleared and counted from here on comes to the whole.
pub record Turning (edges flags₀ slots₀ flags waits tree slots : List ℕ) (k : ℕ) : Type 0 where
  pub few : length flags ≤ 4096
  pub order : sets slots₀ 0 (order_in edges flags₀) ≡ sets slots k (order_in edges flags)
  pub left : clear_all flags₀ (order_in edges flags₀) ≡ clear_all flags (order_in edges flags)
  pub many : length (order_in edges flags₀) ≡ k + length (order_in edges flags)
  pub counts : Counts flags (waiting edges (done_in flags) (length edges)) waits tree

-- A number is the lowest of the set that a tree holds, or there is none.
abbrev pub Finds : List ℕ → std.Option ℕ → Type 0
Finds tree found = (members : ℕ → Bool) → Holds tree members → found ≡ lowest_of members

module _ {edges flags₀ slots₀ flags waits tree slots : List ℕ} {k : ℕ}
    (t : Turning edges flags₀ slots₀ flags waits tree slots k) where
  -- No node is ready: all is written and cleared.
  pub turns_end : Finds tree None → Sorted edges flags₀ slots₀ flags slots k
  unfolding clear_all
  turns_end finds =
      let none = order-end edges flags t.few (finds _ t.counts.ready) in
      record {
        order = sym (t.order ∙ rw none);
        left = sym (t.left ∙ rw none);
        many = sym (t.many ∙ rw none (omega arith));
      }

  module _ {a : ℕ} (finds : Finds tree (Some a)) where
    -- The turn that comes.
    pub turn : Turn edges flags t.few a
    turn = turn_is edges flags t.few a (finds _ t.counts.ready)

    -- With a turn to come there is room to count it.
    pub turn_room : k < length flags₀
    turn_room = omega (arith, t.many, ap length turn.rest, order-fits edges flags₀)

    module _ {flags' : List ℕ} (cleared : flags' ≡ set flags a 0) where
      -- After a turn less of the order is left.
      pub turn_less : length (order_in edges flags') < length (order_in edges flags)
      turn_less = rw cleared (omega (arith, ap length turn.rest))

      -- The turn of node a.
      pub turn_next : {waits' tree' slots' : List ℕ} → slots' ≡ set slots k a
          → Counts flags' (waiting edges (done_in flags') (length edges)) waits' tree'
          → Turning edges flags₀ slots₀ flags' waits' tree' slots' (k + 1)
      unfolding clear_all
      turn_next written counts = record {
        few = let size = t.few in omega (arith, ap length cleared, length-set flags a 0);
        order = t.order ∙ rw (turn.rest, cleared, written, add-one k);
        left = t.left ∙ rw (turn.rest, cleared);
        many = t.many ∙ rw (turn.rest, cleared) (omega arith);
        counts = counts;
      }
