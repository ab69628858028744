-- The order and the loop have at most as many slots as the design.
use mathlib.Core.Path.{◌≡◌, refl, ◌∙◌}
use mathlib.Core.Bool.{Bool, true, false, cond}
use mathlib.Core.Option.{Option, none, some}
use mathlib.Core.List.{List, [], ◌∷◌}
use Prim.Native.Nat.{ℕ, zero, suc, ◌+◌, ◌≤◌}
use native.Mathlib.Omega.{arith}
use lib.ListN.{length, set, length-set}
use Rattle.cell.specs.Design.{Design, total}
use Rattle.working_out.specs.Order.{option}
use Rattle.working_out.specs.Graph.{mark, undone}
use Rattle.working_out.specs.Graph as g
use Rattle.working_out.specs.Loop.{has_loop}
use Rattle.working_out.specs.Loop as w
use Rattle.loops.specs.Edges.{has_edge, done_in, clear_all, order_in}
use Rattle.loops.specs.Graph.{named_loop}
use Rattle.loops.proofs.Runs.{loop_length, walk_meets}
use Rattle.loops.proofs.Named.{none-ready, left-undone}

undone-few : (n : ℕ) (done : ℕ → Bool) → undone n done ≤ n
unfolding undone
undone-few zero done = omega arith
undone-few (suc n) done = go (done n) (undone-few n done)
  where
    go : (b : Bool) → undone n done ≤ n → cond b 0 1 + undone n done ≤ suc n
    go true low = omega arith
    go false low = omega arith

module _ (N : ℕ) (reads : ℕ → ℕ → Bool) where
  order-few : (k : ℕ) (done : ℕ → Bool) → length (g.order N reads k done) ≤ k
  unfolding g.order
  order-few zero done = omega arith
  order-few (suc k) done = go (g.lowest_ready N reads done) (λ a. order-few k (mark done a))
    where
      go : (o : Option ℕ) → ((a : ℕ) → length (g.order N reads k (mark done a)) ≤ k)
          → length (option o [] (λ a. a ∷ g.order N reads k (mark done a))) ≤ suc k
      go none few = omega arith
      go (some a) few = let low = few a in omega arith

-- The order by words and flags.
pub order-short : (edges flags : List ℕ) → length (order_in edges flags) ≤ length flags
order-short edges flags =
    let few = order-few (length flags) (has_edge edges) (undone (length flags) (done_in flags)) (done_in flags) in
    let low = undone-few (length flags) (done_in flags) in
    omega arith

-- The flags stay as many.
pub cleared-length : (l flags : List ℕ) → length (clear_all flags l) ≡ length flags
unfolding clear_all
cleared-length [] flags = refl
cleared-length (a ∷ l) flags = cleared-length l (set flags a 0) ∙ length-set flags a 0

pub loop_short : (d : Design) → has_loop d ≡ true → length (named_loop d) ≤ total d
unfolding named_loop
loop_short d e =
    let met = walk_meets (total d) (w.reads d) _ (none-ready d) _ (left-undone d e) in
    let long = loop_length _ _ met in
    let within = met.within in
    omega arith
