-- The order and the loop, worked out by words and flags, are those of the design: by reads that agree on the nodes not
-- done, the same nodes are ready at each turn, and each walk is the same.
use mathlib.Core.Path.{◌≡◌, refl, ap, ◌∙◌, fun_ext}
use mathlib.Core.Bool.{Bool, true, false, not, cond, ◌&&◌}
use mathlib.Core.Option.{Option, none, some}
use mathlib.Core.List.{List, [], ◌∷◌}
use Prim.Native.Nat.{ℕ, zero, suc, ◌≤◌, ◌<◌}
use native.Mathlib.Omega.{arith}
use native.Mathlib.Decide.{ℕ_discrete, dec_lt}
use lib.ListN.{get_or, length, set, get_or-eq_default}
use lib.Seq.{get_or-set_same, get_or-set_other, set_out}
use lib.Dec.{eqb}
use Rattle.logic.proofs.TableLaws.{length-tab}
use Rattle.cell.specs.Design.{Design, total}
use Rattle.right.specs.Laid.{Laid}
use Rattle.working_out.specs.Order.{option, is_some, lowest}
use Rattle.working_out.specs.Graph.{mark, undone}
use Rattle.working_out.specs.Graph as g
use Rattle.working_out.specs.System.{is_node, start}
use Rattle.working_out.specs.Reading.{node_of}
use Rattle.working_out.specs.Loop.{reads, order, has_loop}
use Rattle.working_out.proofs.GraphLaws.{mark-same, mark-other, mark_keeps}
use Rattle.loops.specs.Edges.{has_edge, done_in, clear_all, order_in}
use Rattle.loops.specs.Run.{lowest_left, loop_of, loop_run}
use Rattle.loops.specs.Graph.{edges_of, node_flags, got_ready, named_loop}
use Rattle.loops.proofs.LowestLaws.{get_d_tab, lowest_ext}
use Rattle.loops.proofs.Orders.{marks_keep}
use Rattle.loops.proofs.Named.{node_low}

-- ---- Two kinds of reads that agree on what is not done at the start.
module _ (N : ℕ) (R S : ℕ → ℕ → Bool) (starts : ℕ → Bool)
    (same : (a b : ℕ) → b < N → starts b ≡ false → R a b ≡ S a b) where
  -- What is done at the start is done.
  abbrev pub Contains : (ℕ → Bool) → Type 0
  Contains done = (b : ℕ) → starts b ≡ true → done b ≡ true

  -- So the same is lacked, the same is ready, the order is the same, and the walk, and the loop.
  pub lacks-same : (done : ℕ → Bool) → Contains done → (a : ℕ) → g.lacks N R done a ≡ g.lacks N S done a
  unfolding g.lacks
  lacks-same done has a =
      lowest_ext N (λ b. R a b && not (done b)) (λ b. S a b && not (done b)) (λ b l. go b l (starts b) refl)
    where
      none_of : (p q d : Bool) → d ≡ true → (p && not d) ≡ (q && not d)
      none_of true true d e = refl
      none_of true false d e = rw e
      none_of false true d e = rw e
      none_of false false d e = refl

      go : (b : ℕ) → b < N → (t : Bool) → starts b ≡ t → (R a b && not (done b)) ≡ (S a b && not (done b))
      go b l true e = none_of (R a b) (S a b) (done b) (has b e)
      go b l false e = rw (same a b l e)

  pub ready-same : (done : ℕ → Bool) → Contains done → g.lowest_ready N R done ≡ g.lowest_ready N S done
  unfolding g.lowest_ready
  ready-same done has =
      lowest_ext N (g.is_ready N R done) (g.is_ready N S done)
      (λ a l. ap (λ (o : Option ℕ). not (done a) && not (is_some o)) (lacks-same done has a))

  pub order_same : (k : ℕ) (done : ℕ → Bool) → Contains done → g.order N R k done ≡ g.order N S k done
  unfolding g.order
  order_same zero done has = refl
  order_same (suc k) done has = go (λ a. order_same k (mark done a) (λ b e. mark_keeps done a b (has b e)))
    where
      turn : ((a : ℕ) → g.order N R k (mark done a) ≡ g.order N S k (mark done a)) → (o : Option ℕ)
          → option o [] (λ a. a ∷ g.order N R k (mark done a)) ≡ option o [] (λ a. a ∷ g.order N S k (mark done a))
      turn rec none = refl
      turn rec (some a) = ap (λ (l : List ℕ). a ∷ l) (rec a)

      go : ((a : ℕ) → g.order N R k (mark done a) ≡ g.order N S k (mark done a))
          → g.order N R (suc k) done ≡ g.order N S (suc k) done
      go rec = rw (ready-same done has) (turn rec (g.lowest_ready N S done))

  pub walk_same : (done : ℕ → Bool) → Contains done → (a k : ℕ) → g.walk N R done a k ≡ g.walk N S done a k
  unfolding g.walk
  walk_same done has a zero = refl
  walk_same done has a (suc k) =
      rw (walk_same done has a k, lacks-same done has (g.walk N S done a k))

  pub loop_same : (done : ℕ → Bool) → Contains done → loop_run N R done ≡ loop_run N S done
  unfolding lowest_left
  loop_same done has = ap (λ (w : ℕ → ℕ). loop_of N w) (fun_ext (walk_same done has (lowest_left N R done)))

-- ---- Flags.
-- A flag set to 0 is a node done.
pub done-set : (flags : List ℕ) (a b : ℕ) → done_in (set flags a 0) b ≡ mark (done_in flags) a b
unfolding done_in
done-set flags a b = go (ℕ_discrete b a)
  where
    cleared : Dec (a < length flags) → get_or (set flags a 0) a 0 ≡ 0
    cleared (yes l) = get_or-set_same flags a 0 0 l
    cleared (no l) = rw (set_out flags a 0 (omega arith)) (get_or-eq_default flags 0 (omega arith))

    go : Dec (b ≡ a) → done_in (set flags a 0) b ≡ mark (done_in flags) a b
    go (yes p) = rw (p, cleared (dec_lt a (length flags)), mark-same (done_in flags) a)
    go (no p) = rw (get_or-set_other flags a b 0 0 p, mark-other (done_in flags) a b p)

-- So the flags cleared are the nodes marked; the reads do not matter.
pub cleared-marked : (N : ℕ) (R : ℕ → ℕ → Bool) (l flags : List ℕ)
    → done_in (clear_all flags l) ≡ g.mark_all N R (done_in flags) l
unfolding clear_all g.mark_all
cleared-marked N R [] flags = refl
cleared-marked N R (a ∷ l) flags =
    cleared-marked N R l (set flags a 0)
    ∙ ap (λ (done : ℕ → Bool). g.mark_all N R done l) (fun_ext (done-set flags a))

-- ---- The design.
-- There is a flag for each slot.
pub flags_length : (d : Design) → length (node_flags d) ≡ total d
unfolding node_flags
flags_length d = length-tab (total d) (λ a. cond (is_node (node_of d) a) 1 0)

module _ (d : Design) (laid : Laid d) where
  -- At the start just the numbers that are no nodes are done.
  pub flags_start : (a : ℕ) → done_in (node_flags d) a ≡ start (node_of d) a
  unfolding done_in node_flags
  flags_start a = go (dec_lt a (total d))
    where
      flag : (t : Bool) → eqb (cond t 1 0) 0 ≡ not t
      flag true = refl
      flag false = refl

      past : total d ≤ a → (t : Bool) → is_node (node_of d) a ≡ t → true ≡ not t
      past h true e = absurd (let l = node_low d laid a e in omega arith)
      past h false e = refl

      go : Dec (a < total d) → done_in (node_flags d) a ≡ start (node_of d) a
      go (yes l) =
          rw (get_d_tab (total d) a (λ a. cond (is_node (node_of d) a) 1 0) l) (flag (is_node (node_of d) a))
      go (no l) =
          let long = flags_length d in
          rw (get_or-eq_default (node_flags d) 0 {n = a} (omega arith))
          (past (omega arith) (is_node (node_of d) a) refl)

  abbrev pub starts_same : done_in (node_flags d) ≡ start (node_of d)
  starts_same = fun_ext flags_start

  -- After the order the flags left are the nodes that never get ready.
  pub got-ready : done_in (clear_all (node_flags d) (order d)) ≡ got_ready d
  unfolding got_ready
  got-ready =
      cleared-marked (total d) (reads d) (order d) (node_flags d)
      ∙ ap (λ (done : ℕ → Bool). g.mark_all (total d) (reads d) done (order d)) starts_same

  -- The same, of each slot.
  pub ready_by_words : (a : ℕ) → done_in (clear_all (node_flags d) (order d)) a ≡ got_ready d a
  ready_by_words a = ap (λ (done : ℕ → Bool). done a) got-ready

  -- A flag is left exactly where there is a loop.
  pub left_by_words : is_some (lowest (total d) (λ a. not (done_in (clear_all (node_flags d) (order d)) a))) ≡ has_loop d
  unfolding got_ready g.never_ready
  left_by_words = ap (λ (done : ℕ → Bool). is_some (lowest (total d) (λ a. not (done a)))) got-ready

  -- By words that say what is read among the nodes, the order is the design's, and so is the loop.
  module _ (same : (a b : ℕ) → b < total d → start (node_of d) b ≡ false → has_edge (edges_of d) a b ≡ reads d a b) where
    pub order_by_words : order_in (edges_of d) (node_flags d) ≡ order d
    order_by_words =
        rw (flags_length d, starts_same)
        (order_same (total d) (has_edge (edges_of d)) (reads d) (start (node_of d)) same
        (undone (total d) (start (node_of d))) (start (node_of d)) (λ b e. e))

    pub loop_by_words : loop_run (total d) (has_edge (edges_of d)) (done_in (clear_all (node_flags d) (order d)))
        ≡ named_loop d
    unfolding named_loop got_ready
    loop_by_words =
        ap (λ (done : ℕ → Bool). loop_run (total d) (has_edge (edges_of d)) done) got-ready
        ∙ loop_same (total d) (has_edge (edges_of d)) (reads d) (start (node_of d)) same (got_ready d)
        (λ b e. marks_keep (total d) (reads d) (order d) (start (node_of d)) b e)
