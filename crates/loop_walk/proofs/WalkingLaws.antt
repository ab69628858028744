-- Laws of the walk by a table of the lowest reads, followed up to the first node met again. Assumes nothing.
use mathlib.Core.Path.{◌≡◌, refl, ap, fun_ext, ◌∙◌}
use mathlib.Core.Option.{Option, none, some}
use mathlib.Core.List.{List, []}
use Prim.Native.Nat.{ℕ, ◌+◌, ◌-◌, ◌≤◌, ◌<◌}
use native.Mathlib.Omega.{arith}
use native.Mathlib.Numerals.{add-one}
use lib.ListN.{length, get_or, set, replicate}
use lib.Dec.{eqb}
use borrow.Author.Tests.{eqb-true}
use Rattle.logic.specs.Table.{tab}
use Rattle.working_out.specs.Order.{option}
use Rattle.working_out.proofs.OrderLaws.{lowest-some}
use Rattle.loops.specs.Run.{met_at, between, loop_of}
use Rattle.loop_walk.specs.Steps.{step, steps}
use Rattle.loop_walk.proofs.StepLaws.{step_below, steps_later}
use Rattle.loop_walk.proofs.MetLaws.{Followed, followed_start, followed_turn, met_first, first_le, first-before}
use Rattle.loop_walk.proofs.MetLaws.{met_again, not_met, loop_found}

-- The loop of a walk by a table: the walk from the node met again, for as many nodes as there are between the places.
module _ (next : List ℕ) (n start k : ℕ) (met : List ℕ) (here : Followed n (steps next n start) k met)
    (low : steps next n start k < 4096) (ends : met_at (steps next n start) k ≡ none → n ≤ k) where
  abbrev walk : ℕ → ℕ
  walk = steps next n start

  -- The walk from the place at which the node was met first is the walk from the node.
  walk-again : (i : ℕ) → met_at walk k ≡ some i → (λ m. walk (i + m)) ≡ steps next n (walk k)
  unfolding met_at
  walk-again i e =
      let same = eqb-true (walk i) (walk k) (lowest-some k (λ i. eqb (walk i) (walk k)) i e).holds in
      fun_ext (steps_later next n start i) ∙ ap (λ (a : ℕ). steps next n a) same

  loop_steps : loop_of n walk ≡ tab (k - get_or met (walk k) 0) (steps next n (walk k))
  unfolding tab
  loop_steps = loop_found n walk k met here low ends ∙ go (met_at walk k) refl
    where
      go : (o : Option ℕ) → met_at walk k ≡ o → option (met_at walk k) [] (λ i. between walk i k)
          ≡ tab (k - get_or met (walk k) 0) (steps next n (walk k))
      go none e =
          let all = ends e in
          let within = here.within in
          let nothing : k - n ≡ 0 = omega arith in
          rw (met_first n walk k met here low, e, nothing)
      go (some i) e =
          rw (met_first n walk k met here low, e)
          (ap (λ (f : ℕ → ℕ). tab (k - i) f) (walk-again i e))

-- The walk by a table followed up to a node: the k-th, at which the table of the places has the nodes before it.
pub record Walking (next : List ℕ) (n start : ℕ) (met : List ℕ) (at k : ℕ) : Type 0 where
  pub there : at ≡ steps next n start k
  pub low : steps next n start k < 4096
  pub followed : Followed n (steps next n start) k met

-- Before the first step.
pub walking_start : (next : List ℕ) (n start : ℕ) → start < 4096 → Walking next n start (replicate 4096 n) start 0
unfolding steps
walking_start next n start l = record { there = refl; low = l; followed = followed_start n (steps next n start) }

module _ (next : List ℕ) (n start : ℕ) (met : List ℕ) (at k : ℕ) (w : Walking next n start met at k) where
  -- The place at which the node was met first: below n it is not past this one, and it is not past n.
  pub walking_before : get_or met at 0 < n → get_or met at 0 ≤ k
  walking_before =
      rw w.there (λ l. let b = first-before n (steps next n start) k met w.followed w.low l in omega arith)

  pub walking_within : get_or met at 0 ≤ n
  walking_within = rw w.there (first_le n (steps next n start) k met w.followed w.low)

  -- A step from a node that was not met before.
  pub walking_turn : n ≤ 4096 → length met ≡ 4096 → k < n → n ≤ get_or met at 0
      → Walking next n start (set met at k) (step next n at) (k + 1)
  unfolding steps
  walking_turn small long more fresh =
      let new = not_met n (steps next n start) k met w.followed w.low (rw w.there at fresh) in
      rw w.there (record {
        there = rw (add-one k);
        low = rw (add-one k) (step_below next n small (steps next n start k));
        followed = followed_turn n (steps next n start) k met w.followed w.low long new more;
      })

  -- The loop, from the node met again, or none where n nodes were met.
  pub walking_loop : (met_at (steps next n start) k ≡ none → n ≤ k)
      → (at < 4096) × (loop_of n (steps next n start) ≡ tab (k - get_or met at 0) (steps next n at))
  walking_loop ends = rw w.there (w.low, loop_steps next n start k met w.followed w.low ends)

  -- At a node met before it is there.
  pub walking_found : get_or met at 0 < n
      → (at < 4096) × (loop_of n (steps next n start) ≡ tab (k - get_or met at 0) (steps next n at))
  walking_found l =
      walking_loop (met_again n (steps next n start) k met w.followed w.low (rw w.there at l))
