-- The answer by words and flags: of two slices, from what is called; and of an accepted list, whose words and flags are
-- the design's reads and nodes.
use mathlib.Core.Path.{◌≡◌, refl, sym, ap, ◌∙◌}
use mathlib.Core.Bool.{Bool, true, false, cond}
use mathlib.Core.List.{List}
use Prim.Native.Nat.{ℕ, ◌≤◌}
use native.Mathlib.Omega.{arith}
use native.Mathlib.Nat.{zero-add}
use lib.ListN.{length, take}
use lib.Seq.{sets, sets-eq, take_at}
use borrow.Author.Tests.{le-ltb}
use Rattle.cell.specs.Design.{Design, total}
use Rattle.right.specs.Laid.{Laid}
use Rattle.design_list.specs.Read.{accepted}
use Rattle.working_out.specs.Loop.{has_loop}
use Rattle.working_out.specs.Loop as w
use Rattle.loops.specs.Edges.{clear_all, order_in}
use Rattle.loops.specs.Graph.{edges_of, node_flags, named_loop}
use Rattle.loops.proofs.ByWords.{flags_length, order_by_words, loop_by_words, left_by_words}
use Rattle.edges.proofs.EdgesRead.{edges_read}
use Rattle.topological.specs.Sorted.{Sorted}
use Rattle.loop_walk.specs.Named.{loop_in, Named}
use Rattle.std.specs.Prelude.{Ok}
use Rattle.ordering.specs.declared.Ordering.{Ordering}
use Rattle.ordering.specs.declared.Ordering.TheVariants.{Ordered, Looped}
use Rattle.ordering.specs.Words.{any_left, slots_by, OrdersBy}
use Rattle.ordering.specs.Answer.{slots_of, Orders}
use Rattle.ordering.proofs.Short.{order-short, cleared-length, loop_short}

-- ---- two slices

module _ {edges flags turns flags' turns' : List ℕ} {n : ℕ} (sorted : Sorted edges flags turns flags' turns' n) where
  -- Where a node is left, the loop is written.
  pub loops_by : {slots slots' : List ℕ} {r : ℕ} → any_left flags' ≡ true → Named edges flags' slots slots' r
      → OrdersBy edges flags slots slots' (Looped r)
  loops_by left named =
      let some = rw sorted.left at left in
      let written = rw sorted.left at named.written in
      let long = rw sorted.left at named.long in
      record { answer = rw (some, long); slice = rw (some, written) }

  -- As many turns as there are nodes, at most.
  pub turns_few : length flags ≤ 4096 → n ≤ 4096
  turns_few few = let short = order-short edges flags in let many = sorted.many in omega arith

  -- The turns begin with the order.
  turns_are : length flags ≤ length turns → take n turns' ≡ order_in edges flags
  turns_are room =
      let short = order-short edges flags in
      let stored = sorted.order ∙ sets-eq (order_in edges flags) turns 0 (omega arith) in
      ap (take n) stored ∙ take_at (order_in edges flags) _ n (sym sorted.many)

  -- Else the order is.
  pub orders_by : {slots slots' : List ℕ} → length flags ≤ length turns → any_left flags' ≡ false
      → slots' ≡ sets slots 0 (take n turns') → OrdersBy edges flags slots slots' (Ordered n)
  orders_by room left copied =
      let none = rw sorted.left at left in
      record { answer = rw (none, sorted.many); slice = rw (none) (copied ∙ ap (sets _ 0) (turns_are room)) }

-- ---- an accepted list

module _ (d : Design) (laid : Laid d) (few : total d ≤ 4096) where
  order_is : order_in (edges_of d) (node_flags d) ≡ w.order d
  order_is = order_by_words d laid (edges_read d laid few)

  flags_left : length (clear_all (node_flags d) (w.order d)) ≡ total d
  flags_left = cleared-length (w.order d) (node_flags d) ∙ flags_length d

  left_is : any_left (clear_all (node_flags d) (w.order d)) ≡ has_loop d
  unfolding any_left
  left_is = rw flags_left (left_by_words d laid)

  loop_is : loop_in (edges_of d) (clear_all (node_flags d) (w.order d)) ≡ named_loop d
  loop_is = rw flags_left (loop_by_words d laid (edges_read d laid few))

  slots_are : slots_by (edges_of d) (node_flags d) ≡ slots_of d
  slots_are = rw (order_is, left_is, loop_is)

  pub nodes_short : length (w.order d) ≤ total d
  nodes_short =
      let short = order-short (edges_of d) (node_flags d) in
      let same = ap length order_is in
      let size = flags_length d in
      omega arith

  slots-short : length (slots_of d) ≤ total d
  slots-short = go (has_loop d) refl
    where
      go : (b : Bool) → has_loop d ≡ b → length (cond b (named_loop d) (w.order d)) ≤ total d
      go true e = loop_short d e
      go false e = nodes_short

  -- What is answered by the words and flags of a design is its answer.
  pub orders_of : {slots slots' : List ℕ} {a : Ordering} {replacements pairs : ℕ} → total d ≤ length slots
      → OrdersBy (edges_of d) (node_flags d) slots slots' a → Orders (accepted d replacements pairs) slots slots' (Ok a)
  orders_of {slots} {slots'} {a} room by =
      let short = slots-short in
      let roomy = le-ltb (length slots) (total d) room in
      record {
        answer = rw (by.answer, roomy, order_is, left_is, loop_is);
        slice = by.slice ∙ ap (sets slots 0) slots_are ∙ sets-eq (slots_of d) slots 0 (omega arith)
            ∙ rw (roomy, zero-add (length (slots_of d)));
      }
