-- Document 02, change 4: "Go from the lowest slot that never gets ready always to the lowest such slot read: the loop
-- starts at the first met again." `done` has the slots that got ready, and the numbers that are no nodes.
use Rattle.std.specs.Prelude.{Bool, not, List, [], ℕ, suc, ◌+◌, ◌-◌, eqb}
use Rattle.std.proofs.Math.Option.{Option}
use Rattle.logic.specs.Table.{tab}
use Rattle.working_out.specs.Order.{option, is_some, lowest}
use Rattle.working_out.specs.Graph as g

-- The place, before the k-th, at which the k-th slot of a walk was met first.
unfoldable pub met_at : (ℕ → ℕ) → ℕ → Option ℕ
met_at walk k = lowest k (λ i. eqb (walk i) (walk k))

-- The first place, up to the N-th, at which a slot is met again.
unfoldable pub again : ℕ → (ℕ → ℕ) → Option ℕ
again N walk = lowest (suc N) (λ k. is_some (met_at walk k))

-- The slots of a walk from a place on, up to another.
abbrev pub between : (ℕ → ℕ) → ℕ → ℕ → List ℕ
between walk i j = tab (j - i) (λ k. walk (i + k))

-- The loop: from where the first slot met again was met first, up to there, without the repetition.
unfoldable pub loop_of : ℕ → (ℕ → ℕ) → List ℕ
loop_of N walk = option (again N walk) [] (λ j. option (met_at walk j) [] (λ i. between walk i j))

module _ (N : ℕ) (reads : ℕ → ℕ → Bool) (done : ℕ → Bool) where
  -- The lowest slot that is not done.
  unfoldable pub lowest_left : ℕ
  lowest_left = option (lowest N (λ a. not (done a))) 0 (λ a. a)

  -- The loop that is named.
  abbrev pub loop_run : List ℕ
  loop_run = loop_of N (g.walk N reads done lowest_left)
