-- Document 02, change 4. The words of a node's current reads, by the words of the slot table, and where they are added.
use Rattle.std.specs.Prelude.{◌≡◌, Bool, false, cond, List, map, ℕ, ◌+◌, ◌/◌, ◌≤◌, get_or, length}
use Rattle.std.proofs.lemmas.List.Edits.{sets}
use Rattle.logic.specs.declared.Trit.{Trit}
use Rattle.cell.specs.Each.{Each}
use Rattle.cell.specs.declared.Operation.{Operation}
use Rattle.cell.specs.declared.Operation.TheVariants as O
use Rattle.loops.specs.Edges.{edge}
use Rattle.nets.specs.Reads.{past_in}
use Rattle.cell_reads.specs.declared.Reading.{Reading}
use Rattle.cell_reads.specs.declared.Reading.TheVariants.{Compared, Clocked, Run}

-- The words of a node's reads; the slot table's word has 1,024 × the first slot of the cell that takes the slot read.
abbrev pub edges_in : List ℕ → ℕ → List ℕ → List ℕ
edges_in table node read = map (λ i. edge node (get_or table i 0 / 1024)) read

-- Which slots are read by their past trit: of a clock, whose current read counts, none.
abbrev pub past_by : List ℕ → Bool → ℕ → Bool
past_by table clock = cond clock (λ _. false) (past_in table)

-- The words of the reads of some slots are stored one after another from a place on, and counted.
pub record Adds (table : List ℕ) (node : ℕ) (read edges : List ℕ) (count : ℕ) (edges' : List ℕ) (r : ℕ) : Type 0 where
  pub slice : edges' ≡ sets edges count (edges_in table node read)
  pub many : r ≡ count + length read

-- How the nets that an operation's record reads stand in its words. Document 01, "Reading nets": a Match reads only
-- compared positions and its enable, and a Dff's clock is read apart; in every other record all nets stand in one run.
abbrev pub reading_of : Operation → Reading
reading_of O.Void = Run
reading_of O.Note = Run
reading_of O.IoBuf = Run
reading_of O.Input = Run
reading_of (O.Unary operator) = Run
reading_of (O.Binary operator) = Run
reading_of O.Mux = Run
reading_of O.Adc = Run
reading_of O.Aig = Run
reading_of (O.Shift operator) = Run
reading_of O.Match = Compared
reading_of O.Assign = Run
reading_of O.Dff = Clocked

-- Document 01, "Bounds": alternates ≤ 64 in each of some patterns.
abbrev pub Few : List (List (List Trit)) → Type 0
Few patterns = Each (λ (alternates : List (List Trit)). length alternates ≤ 64) patterns
