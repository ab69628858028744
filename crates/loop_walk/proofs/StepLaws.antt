-- Laws of the walk by a table of the lowest reads. Assumes nothing.
use mathlib.Core.Path.{◌≡◌, refl, ap, fun_ext}
use mathlib.Core.Bool.{Bool, true, false, cond}
use mathlib.Core.List.{List}
use Prim.Native.Nat.{ℕ, zero, suc, ◌+◌, ◌-◌, ◌≤◌, ◌<◌}
use native.Mathlib.Omega.{arith}
use native.Mathlib.Nat.{add-zero, add-suc}
use native.Mathlib.Numerals.{add-one}
use lib.ListN.{length, get_or, set}
use lib.Seq.{sets}
use lib.Dec.{ltb}
use borrow.Author.Tests.{ltb-true}
use Rattle.logic.specs.Table.{tab}
use Rattle.working_out.specs.Order.{option}
use Rattle.working_out.specs.Graph as g
use Rattle.loops.specs.Edges.{has_edge, done_in}
use Rattle.loop_walk.specs.Reads.{waits_for, LowestReads}
use Rattle.loop_walk.specs.Steps.{step, steps}
use Rattle.loop_walk.proofs.FirstLaws.{first-lowest, found_or}

module _ (next : List ℕ) (n : ℕ) where
  module _ (small : n ≤ 4096) where
    -- The walk stays among the nodes below 4,096.
    pub step_below : (at : ℕ) → step next n at < 4096
    unfolding step
    step_below at = go (ltb (get_or next at 0) n) refl
      where
        go : (t : Bool) → ltb (get_or next at 0) n ≡ t → cond t (get_or next at 0) 0 < 4096
        go true e = let l = ltb-true (get_or next at 0) n e in omega arith
        go false e = omega arith

    pub steps_below : (start : ℕ) → start < 4096 → (k : ℕ) → steps next n start k < 4096
    unfolding steps
    steps_below start l zero = l
    steps_below start l (suc k) = step_below (steps next n start k)

  -- The walk from a place of it is the rest of the walk.
  pub steps_later : (start i m : ℕ) → steps next n start (i + m) ≡ steps next n (steps next n start i) m
  unfolding steps
  steps_later start i zero = rw (add-zero i)
  steps_later start i (suc m) = rw (add-suc i m) (ap (λ (a : ℕ). step next n a) (steps_later start i m))

  -- After the first node, the walk from the next.
  pub steps_next : (start m : ℕ) → steps next n start (suc m) ≡ steps next n (step next n start) m
  unfolding steps
  steps_next start zero = refl
  steps_next start (suc m) = ap (λ (a : ℕ). step next n a) (steps_next start m)

  -- A loop that writes the walk: a turn, and the end.
  pub write_turn : (l : List ℕ) (m end at : ℕ) → m < end
      → sets l m (tab (end - m) (steps next n at))
      ≡ sets (set l m at) (m + 1) (tab (end - (m + 1)) (steps next n (step next n at)))
  unfolding tab steps
  write_turn l m end at more =
      let left : end - m ≡ suc (end - (m + 1)) = omega arith in
      let rest : (λ i. steps next n at (suc i)) ≡ steps next n (step next n at) = fun_ext (steps_next at) in
      rw (left, add-one m)
      (ap (λ (f : ℕ → ℕ). sets (set l m at) (suc m) (tab (end - suc m) f)) rest)

  pub write_none : (l : List ℕ) (m end at : ℕ) → end ≤ m → sets l m (tab (end - m) (steps next n at)) ≡ l
  unfolding tab
  write_none l m end at done = let none : end - m ≡ 0 = omega arith in rw none

-- With the table of the lowest reads it is the walk to the lowest node read that is not done.
module _ (edges flags next : List ℕ) (small : length flags ≤ 4096) (table : LowestReads edges flags next) where
  lacks-step : (a : ℕ) → a < 4096
      → option (g.lacks (length flags) (has_edge edges) (done_in flags) a) 0 (λ b. b) ≡ step next (length flags) a
  unfolding g.lacks step
  lacks-step a l =
      rw (first-lowest (length flags) (waits_for edges flags a) (get_or next a 0) (table a l))
      (found_or (length flags) (get_or next a 0) 0 (λ b. b))

  walk_step : (start : ℕ) → start < 4096 → (k : ℕ)
      → g.walk (length flags) (has_edge edges) (done_in flags) start k ≡ steps next (length flags) start k
  unfolding g.walk steps
  walk_step start l zero = refl
  walk_step start l (suc k) =
      rw (walk_step start l k)
      (lacks-step (steps next (length flags) start k) (steps_below next (length flags) small start l k))

  pub walk_steps : (start : ℕ) → start < 4096
      → g.walk (length flags) (has_edge edges) (done_in flags) start ≡ steps next (length flags) start
  walk_steps start l = fun_ext (walk_step start l)
