-- Document 02, change 4: the words of a design's current reads, as they are stored into a lent slice; past its end
-- nothing is stored.
use Rattle.std.specs.Prelude.{◌≡◌, List, [], ℕ, ◌+◌, ◌≤◌, length}
use Rattle.std.proofs.lemmas.List.Edits.{sets}
use Rattle.logic.specs.declared.Driver.{Driver}
use Rattle.logic.specs.declared.Driver.TheVariants.{Constant, Output, NoNet}
use Rattle.cell.specs.Design.{Design}
use Rattle.loops.specs.Graph.{edges_of}
use Rattle.cell_reads.specs.Reads.{edges_in}

-- Words are stored one after another from a place on, and counted.
pub record Fills (words edges : List ℕ) (count : ℕ) (edges' : List ℕ) (r : ℕ) : Type 0 where
  pub slice : edges' ≡ sets edges count words
  pub many : r ≡ count + length words

-- The words of the reads of a replaced Void; none where there is none.
abbrev pub void_words : List ℕ → Driver → List ℕ → List ℕ
void_words table (Constant t) read = []
void_words table (Output i) read = edges_in table i.0 read
void_words table NoNet read = []

-- All reads of a design are stored from 0 on. They are at most as many as an accepted list has words.
pub record Filled (d : Design) (edges edges' : List ℕ) (r : ℕ) : Type 0 where
  pub slice : edges' ≡ sets edges 0 (edges_of d)
  pub many : r ≡ length (edges_of d)
  pub few : r ≤ 16384
