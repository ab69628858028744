-- The words of the reads of a cell and of a net replacement, by the slot table, are those of the design; a net
-- replacement has one at most.
use mathlib.Core.Path.{◌≡◌, refl, ap, ap₂}
use mathlib.Core.Bool.{Bool, true, false, cond}
use mathlib.Core.List.{List, [], ◌∷◌}
use Prim.Native.Nat.{ℕ, ◌≤◌, ◌<◌}
use native.Mathlib.Omega.{arith}
use lib.ListN.{length, length-map}
use Rattle.logic.specs.Net.{Net, constant, slot, driver_of_net}
use Rattle.cell.specs.Design.{Design, NetPair, total, cell_of}
use Rattle.cell.specs.declared.Operation.{Operation}
use Rattle.cell.specs.Each.{Each}
use Rattle.cell.proofs.EachLaws.{each_map}
use Rattle.right.specs.Nets.{nets_of, Within}
use Rattle.rules.specs.Reads.{current_net, current_reads}
use Rattle.cell_reader.specs.Parse.{cell_at}
use Rattle.cell_reader.specs.Accepted.{IsRecord}
use Rattle.accepted.proofs.Cells.{cell-read}
use Rattle.working_out.specs.Reading.{Pair, equal, of_void, of_dffs, ordinary, reads_past}
use Rattle.nets.specs.Reads.{past_in}
use Rattle.slots.proofs.Laws.{tells-past}
use Rattle.loops.specs.Edges.{edge}
use Rattle.loops.specs.Graph.{edges_from, of_pair}
use Rattle.edges.proofs.Low.{Low, net-low, reads-low}
use Rattle.replaced_cells.specs.Cursor.{Readable}
use Rattle.cell_reads.specs.Reads.{edges_in}
use Rattle.reads_table.specs.Table.{IsTable}
use Rattle.reads_table.specs.Nodes.{void_by, slots_in}
use Rattle.reads_table.specs.Fills.{void_words}

-- A record that was read.
pub readable : {w : List ℕ} {total at : ℕ} {op : Operation} {width next : ℕ} → IsRecord w total at op width next
    → Readable w at
readable is =
    let ends = is.ends in
    let fits = is.fits in
    record { inside = is.inside; ends = omega arith; bounded = (cell-read is).bounded; shaped = (cell-read is).shaped }

module _ (d : Design) {table : List ℕ} (is : IsTable d table) where
  -- The words of reads of the design's slots.
  words_same : (node : ℕ) (reads : List ℕ) → Low (total d) reads → edges_in table node reads ≡ edges_from d node reads
  words_same node [] low = refl
  words_same node (i ∷ reads) low =
      ap₂ (λ (e : ℕ) (l : List ℕ). e ∷ l) (ap (edge node) (is.firsts i low.0)) (words_same node reads low.1)

  -- Of a cell.
  pub cell-words : {w : List ℕ} {at : ℕ} {op : Operation} {width next : ℕ} → IsRecord w (total d) at op width next
      → (node : ℕ) → edges_in table node (current_reads (past_in table) (cell_at w at))
      ≡ edges_from d node (current_reads (reads_past d) (cell_at w at))
  cell-words {w} {at} read node =
      let within = each_map (nets_of (cell_at w at)) (λ net stands. stands.within) (cell-read read).stands in
      rw (tells-past is.tells) (words_same node (current_reads (reads_past d) (cell_at w at))
      (reads-low (total d) (reads_past d) (cell_at w at) within))

  -- Of a net replacement.
  pub pair-words : (p : NetPair) → Within (total d) p.to → (kind : Pair)
      → void_words table (void_by (driver_of_net p.from) kind) (current_net (past_in table) p.to) ≡ of_pair d p kind
  pair-words p within equal = refl
  pair-words p within of_void = go p.from
    where
      go : (from : Net) → void_words table (driver_of_net from) (current_net (past_in table) p.to)
          ≡ of_pair d (record { from = from; to = p.to }) of_void
      go (constant t) = refl
      go (slot i) =
          rw (tells-past is.tells)
          (words_same i (current_net (reads_past d) p.to) (net-low (total d) (reads_past d) p.to within))
  pair-words p within of_dffs = refl
  pair-words p within ordinary = refl

-- The node of a net replacement is a slot of the design.
pub void-low : (n : ℕ) (from : Net) → Within n from → (kind : Pair)
    → Each (λ i. i < n) (slots_in (void_by (driver_of_net from) kind))
void-low n from within equal = tt
void-low n (constant t) within of_void = tt
void-low n (slot i) within of_void = (within, tt)
void-low n from within of_dffs = tt
void-low n from within ordinary = tt

-- ---- how many they are

-- A net is one read at most.
net-few : (past : ℕ → Bool) (net : Net) → length (current_net past net) ≤ 1
net-few past (constant t) = omega arith
net-few past (slot i) = go (past i)
  where
    go : (b : Bool) → length (cond {A = List ℕ} b [] (i ∷ [])) ≤ 1
    go true = omega arith
    go false = omega arith

-- So a net replacement has one word at most.
pub pair-few : (d : Design) (p : NetPair) (kind : Pair) → length (of_pair d p kind) ≤ 1
pair-few d p equal = omega arith
pair-few d p of_void = go p.from
  where
    go : (from : Net) → length (of_pair d (record { from = from; to = p.to }) of_void) ≤ 1
    go (constant t) = omega arith
    go (slot i) =
        let same = length-map (current_net (reads_past d) p.to) (λ j. edge i (cell_of d j).slot) in
        let few = net-few (reads_past d) p.to in
        omega arith
pair-few d p of_dffs = omega arith
pair-few d p ordinary = omega arith
