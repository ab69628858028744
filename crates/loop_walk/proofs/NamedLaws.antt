-- The loop that is named, by the table of the lowest reads. Assumes nothing.
use mathlib.Core.Path.{◌≡◌, sym, ap, ◌∙◌}
use mathlib.Core.List.{List}
use Prim.Native.Nat.{ℕ, ◌≤◌}
use lib.ListN.{length}
use lib.Seq.{sets}
use Rattle.logic.specs.Table.{tab}
use Rattle.logic.proofs.TableLaws.{length-tab}
use Rattle.loops.specs.Edges.{has_edge, done_in}
use Rattle.loops.specs.Run.{loop_of, lowest_left}
use Rattle.loop_walk.specs.Named.{loop_in, Named}
use Rattle.loop_walk.specs.Reads.{LowestReads}
use Rattle.loop_walk.specs.Steps.{steps}
use Rattle.loop_walk.proofs.FirstLaws.{left_below}
use Rattle.loop_walk.proofs.StepLaws.{walk_steps}

module _ (edges flags next : List ℕ) (small : length flags ≤ 4096) (table : LowestReads edges flags next) where
  abbrev n : ℕ
  n = length flags

  -- The lowest node that is not done, from which the walk starts.
  abbrev left : ℕ
  left = lowest_left n (has_edge edges) (done_in flags)

  -- The loop is that of the walk by the table.
  loop_in_lem : loop_in edges flags ≡ loop_of n (steps next n left)
  loop_in_lem =
      ap (λ (w : ℕ → ℕ). loop_of n w)
      (walk_steps edges flags next small table left (left_below n (has_edge edges) (done_in flags) small))

  -- What is written of the walk, and how much, is the loop.
  pub named_by : (slots slots' : List ℕ) (start at long : ℕ)
      → start ≡ lowest_left (length flags) (has_edge edges) (done_in flags)
      → loop_of (length flags) (steps next (length flags) start) ≡ tab long (steps next (length flags) at)
      → slots' ≡ sets slots 0 (tab long (steps next (length flags) at)) → Named edges flags slots slots' long
  named_by slots slots' start at long from loop wrote =
      let same : loop_in edges flags ≡ tab long (steps next n at) = loop_in_lem ∙ (rw from at loop) in
      record { written = rw same wrote; long = rw same (sym (length-tab long (steps next n at))) }
