-- Where there is a loop, the loop named is one; where there is none, and the list is accepted, the order has all nodes.
use mathlib.Core.Path.{◌≡◌, refl}
use mathlib.Core.Bool.{Bool, true, false, not, ◌&&◌, ◌||◌, false≢true}
use mathlib.Core.Option.{Option, none, some}
use mathlib.Core.List.{List, [], ◌∷◌}
use Prim.Native.Nat.{ℕ, ◌<◌}
use native.Mathlib.Omega.{arith}
use Rattle.cell.specs.Design.{Design, total}
use Rattle.right.specs.Laid.{Laid}
use Rattle.working_out.specs.Order.{option, is_some, lowest}
use Rattle.working_out.specs.Graph.{undone}
use Rattle.working_out.specs.Graph as g
use Rattle.working_out.specs.System.{any, owns, is_node, start}
use Rattle.working_out.specs.System as s
use Rattle.working_out.specs.Reading.{node_of}
use Rattle.working_out.specs.Loop.{currently_read, reads, order, has_loop}
use Rattle.working_out.proofs.OrderLaws.{not-true, lowest-some}
use Rattle.working_out.proofs.GraphLaws.{Undone, order-ends}
use Rattle.working_out.proofs.SystemLaws.{Owned, owns_own, own_owns}
use Rattle.working_out.proofs.LayoutLaws.{belongs_low, owned}
use Rattle.loops.specs.Run.{lowest_left}
use Rattle.loops.specs.Graph.{got_ready, named_loop}
use Rattle.loops.specs.Is.{IsOrder, IsLoop}
use Rattle.loops.proofs.Runs.{walk_loop}
use Rattle.loops.proofs.Orders.{order_is}

-- Only nodes are read.
module _ (N : ℕ) (owner : ℕ → Option ℕ) (own : Owned N owner) (current : ℕ → List ℕ) where
  any_node : (b : ℕ) (l : List ℕ) → any (owns owner b) l ≡ true → is_node owner b ≡ true
  unfolding any
  any_node b [] e = absurd (false≢true e)
  any_node b (j ∷ l) e = go (any_node b l) (owns owner b j) refl e
    where
      go : (any (owns owner b) l ≡ true → is_node owner b ≡ true) → (t : Bool) → owns owner b j ≡ t
          → (t || any (owns owner b) l) ≡ true → is_node owner b ≡ true
      go rec true q h = owns_own owner b b (own.first j b (own_owns owner b j q))
      go rec false q h = rec h

  pub read_node : (a b : ℕ) → s.reads owner current a b ≡ true → is_node owner b ≡ true
  unfolding s.reads
  read_node a b e = go (is_node owner a) e
    where
      go : (t : Bool) → (t && any (owns owner b) (current a)) ≡ true → is_node owner b ≡ true
      go true h = any_node b (current a) h
      go false h = absurd (false≢true h)

module _ (d : Design) (laid : Laid d) where
  -- A node is a slot.
  pub node_low : (a : ℕ) → is_node (node_of d) a ≡ true → a < total d
  node_low a n = belongs_low d laid a a (own_owns (node_of d) a a n)

  -- Without a loop the order has all nodes, each after all that it reads currently, the lowest ready one always next.
  pub whole-order : has_loop d ≡ false → IsOrder (reads d) (is_node (node_of d)) (order d)
  whole-order =
      order_is (total d) (reads d) (is_node (node_of d)) node_low
      (read_node (total d) (node_of d) (owned d laid) (currently_read d))

-- After the order none is ready.
pub none-ready : (d : Design) → g.lowest_ready (total d) (reads d) (got_ready d) ≡ none
unfolding got_ready
none-ready d =
    order-ends (total d) (reads d) (undone (total d) (start (node_of d))) (start (node_of d)) (omega arith)

-- With a loop, the lowest slot that never gets ready is a node, from which the walk starts.
pub left-undone : (d : Design) → has_loop d ≡ true
    → Undone (total d) (reads d) (got_ready d) (lowest_left (total d) (reads d) (got_ready d))
unfolding got_ready lowest_left g.never_ready
left-undone d e = go (lowest (total d) (λ a. not (got_ready d a))) refl e
  where
    go : (o : Option ℕ) → lowest (total d) (λ a. not (got_ready d a)) ≡ o → is_some o ≡ true
        → Undone (total d) (reads d) (got_ready d) (option o 0 (λ a. a))
    go none q t = absurd (false≢true t)
    go (some a) q t =
        let f = lowest-some (total d) (λ a. not (got_ready d a)) a q in
        record { low = f.below; not_done = not-true (got_ready d a) f.holds }

-- The loop named is one, where there is one.
pub named_loop_lem : (d : Design) → has_loop d ≡ true → IsLoop (reads d) (named_loop d)
unfolding named_loop
named_loop_lem d e =
    walk_loop (total d) (reads d) (got_ready d) (none-ready d) (lowest_left (total d) (reads d) (got_ready d))
    (left-undone d e)
