-- Document 02, change 4: the loop that is named, by the words of the reads and the flags of the nodes not done.
use Rattle.std.specs.Prelude.{◌≡◌, List, ℕ, length}
use Rattle.std.proofs.lemmas.List.Edits.{sets}
use Rattle.loops.specs.Edges.{has_edge, done_in}
use Rattle.loops.specs.Run.{loop_run}

-- From the lowest node that is not done always to the lowest such node read.
abbrev pub loop_in : List ℕ → List ℕ → List ℕ
loop_in edges flags = loop_run (length flags) (has_edge edges) (done_in flags)

-- The loop stands at the start of the slots, and its length is answered.
pub record Named (edges flags slots slots' : List ℕ) (r : ℕ) : Type 0 where
  pub written : slots' ≡ sets slots 0 (loop_in edges flags)
  pub long : r ≡ length (loop_in edges flags)
