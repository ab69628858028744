-- Document 01, "Words": a design list. What an accepted list is: the words of its design, with its replacements and
-- pairs at their places.
use Rattle.std.specs.Prelude.{◌≡◌, List, ℕ, ◌≤◌, length}
use Rattle.cell.specs.Design.{Design}
use Rattle.valid.specs.Words.{words_of, replacements_at, pairs_at}

-- And no other list stands for that design, nor has it other places.
pub record IsWritten (w : List ℕ) (d : Design) (replacements pairs : ℕ) : Type 0 where
  pub words : w ≡ words_of d
  pub short : length (words_of d) ≤ 16384
  pub replacements-at : replacements ≡ replacements_at d
  pub pairs-at : pairs ≡ pairs_at d
