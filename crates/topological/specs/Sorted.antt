-- Document 02, change 4. What the sort answers: the order of the nodes, in the slots from the first, how many there
-- are, and the flags of just the nodes that never get ready.
use Rattle.std.specs.Prelude.{◌≡◌, List, ℕ, length}
use Rattle.std.proofs.lemmas.List.Edits.{sets}
use Rattle.loops.specs.Edges.{clear_all, order_in}

pub record Sorted (edges flags slots flags' slots' : List ℕ) (r : ℕ) : Type 0 where
  pub order : slots' ≡ sets slots 0 (order_in edges flags)
  pub left : flags' ≡ clear_all flags (order_in edges flags)
  pub many : r ≡ length (order_in edges flags)
