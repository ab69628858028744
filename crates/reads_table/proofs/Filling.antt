-- The loops that store the words of the reads: what they have stored and what is left make the words of all reads, and
-- they have never stored more words than the list has before the loop's place.
use mathlib.Core.Path.{◌≡◌, ap}
use mathlib.Core.Bool.{Bool, true, false, cond}
use mathlib.Core.List.{List, []}
use Prim.Native.Nat.{ℕ, ◌+◌, ◌%◌, ◌≤◌, ◌<◌, ◌^◌, max}
use native.Mathlib.Omega.{arith}
use lib.ListN.{length, length-map}
use Rattle.logic.specs.Net.{driver_of_net}
use Rattle.logic.specs.declared.Driver.{Driver}
use Rattle.cell.specs.declared.Mode.{Mode}
use Rattle.cell.specs.Design.{Design, Placed, total, cell_of}
use Rattle.cell.specs.Each.{Each}
use Rattle.cell.proofs.EachLaws.{each_map}
use Rattle.rules.specs.Reads.{current_net, current_reads}
use Rattle.cell_reader.specs.Parse.{number_in, net_in, cell_at, end_at}
use Rattle.items.specs.Items.{new_cell, net_pair}
use Rattle.placing.specs.Slots.{at_slot}
use Rattle.design_list.specs.Read.{read, accepted}
use Rattle.design_list.proofs.AcceptedLaws.{accepted-read}
use Rattle.accepted.proofs.Replacements.{Climb, IsReplacement}
use Rattle.accepted.proofs.Replacements as R
use Rattle.accepted.proofs.Laid.{stages}
use Rattle.working_out.specs.Reading.{reads_past, asserted, pair_of}
use Rattle.nets.specs.Reads.{past_in}
use Rattle.slots.specs.Tells.{width_in}
use Rattle.loops.specs.Edges.{edge}
use Rattle.loops.specs.Graph.{edges_from, cell_edges, of_pair, pair_edges, edges_of}
use Rattle.replaced_cells.specs.Cursor.{Readable}
use Rattle.cell_reads.specs.Reads.{edges_in}
use Rattle.cell_reads.proofs.Fit.{reads_fit}
use Rattle.reads_table.specs.Table.{IsTable}
use Rattle.reads_table.specs.Nodes.{asserted_in, slots_in, void_by, void_in}
use Rattle.reads_table.specs.Fills.{Fills, void_words, Filled}
use Rattle.reads_table.proofs.Cells.{AtCell, cells-start, cell_turn, cells-end, asserted_in_lem}
use Rattle.reads_table.proofs.Pairs.{AtPair, pairs_start, pair_turn, pairs_end, void-told}
use Rattle.reads_table.proofs.Fills.{Left, left-start, left_turn, left_end, fills_append}
use Rattle.reads_table.proofs.Words.{readable, cell-words, pair-words, void-low, pair-few}

-- ---- the cells

-- Along the cells.
pub record ReadsLeft (d : Design) (w table : List ℕ) (end index at : ℕ) (edges₀ edges : List ℕ) (count : ℕ) : Type 0
  where
    pub place : AtCell d w table end index at
    pub left : Left (cell_edges d d.cells) edges₀ 0 (cell_edges d place.cells) edges count
    pub room : count ≤ at

-- The words of a cell, if it is asserted, are no more than its reads.
cell-few : (d : Design) (asserts : Bool) (node : ℕ) (reads : List ℕ)
    → length (cond asserts (edges_from d node reads) []) ≤ length reads
cell-few d true node reads = let same = length-map reads (λ i. edge node (cell_of d i).slot) in omega arith
cell-few d false node reads = omega arith

module _ (mode : Mode) (w : List ℕ) {table : List ℕ} {d : Design} {replacements pairs : ℕ}
    (accepts : read mode w ≡ accepted d replacements pairs) (is : IsTable d table) where
  pub reads-start : (edges : List ℕ) → ReadsLeft d w table replacements 0 4 edges edges 0
  unfolding cells-start
  reads-start edges = record { place = cells-start mode w accepts is; left = left-start; room = omega arith }

  -- A turn in the code's terms: the slot's number is the index, and what each call answers.
  pub reads-step : {index number k at at₁ count count₁ : ℕ} {edges₀ edges edges₁ : List ℕ}
      → ReadsLeft d w table replacements index at edges₀ edges count → index < length table
      → number ≡ index % 4294967296
      → (Readable w at → number < 4096 → count < 2 ^ 32
      → Fills (cond (asserted_in w table at number)
      (edges_in table number (current_reads (past_in table) (cell_at w at))) []) edges count edges₁ count₁)
      → (at < length w → at₁ ≡ end_at w at) → k ≡ max 1 (width_in table number)
      → ReadsLeft d w table replacements (index + k) at₁ edges₀ edges₁ count₁
  unfolding cell_edges
  reads-step {index} {number} {at = at} {count = count} {count₁ = count₁} {edges = edges} {edges₁ = edges₁}
      along inside same stored next size =
      let accepts-is = accepted-read mode w accepts in
      let low = accepts-is.low in
      let short = accepts-is.short in
      let full = is.size in
      let number_is : number ≡ index = omega arith in
      let turn = cell_turn d w table along.place (omega arith) in
      let record_is = turn.record_is in
      let begins = record_is.inside in
      let room = along.room in
      let words =
      cond (asserted (cell_at w at)) (edges_from d index (current_reads (reads_past d) (cell_at w at))) [] in
      let fills : Fills words edges count edges₁ count₁ =
      rw (number_is, asserted_in_lem w table at index turn.wide, cell-words d is record_is index) at
      (stored (readable record_is) (omega arith) (omega arith)) in
      let few = cell-few d (asserted (cell_at w at)) index (current_reads (reads_past d) (cell_at w at)) in
      let fits = reads_fit (reads_past d) record_is in
      let many = fills.many in
      rw (size, next begins, number_is) record {
        place = turn.next;
        left = left_turn (ap (cell_edges d) turn.first) along.left fills;
        room = omega arith;
      }

module _ {w table : List ℕ} {d : Design} {end : ℕ} where
  pub reads_end : {index at count : ℕ} {edges₀ edges : List ℕ} → length table ≡ total d
      → ReadsLeft d w table end index at edges₀ edges count → length table ≤ index
      → Fills (cell_edges d d.cells) edges₀ 0 edges count × (count ≤ end)
  unfolding cell_edges
  reads_end full along past =
      let ends = cells-end d w table along.place (omega arith) in
      (left_end (ap (cell_edges d) ends.0) along.left, let room = along.room in let last = ends.1 in omega arith)

-- ---- the net replacements

-- Along the net replacements.
pub record VoidReadsLeft (d : Design) (w : List ℕ) (at : ℕ) (edges₀ : List ℕ) (count₀ : ℕ) (edges : List ℕ) (count : ℕ)
    : Type 0 where
  pub place : AtPair d w at
  pub left : Left (pair_edges d d.net_reps) edges₀ count₀ (pair_edges d place.pairs) edges count
  pub room : count ≤ at

pub void-reads-start : (mode : Mode) (w : List ℕ) {d : Design} {replacements pairs : ℕ}
    → read mode w ≡ accepted d replacements pairs → (edges : List ℕ) (count : ℕ) → count ≤ pairs
    → VoidReadsLeft d w pairs edges count edges count
unfolding pairs_start
void-reads-start mode w accepts edges count low =
    record { place = pairs_start mode w accepts; left = left-start; room = low }

module _ (mode : Mode) (w : List ℕ) {table : List ℕ} {d : Design} {replacements pairs : ℕ}
    (accepts : read mode w ≡ accepted d replacements pairs) (is : IsTable d table) where
  -- A turn in the code's terms.
  pub void-reads-step : {at from to count₀ count count₁ : ℕ} {replaced : Driver} {edges₀ edges edges₁ : List ℕ}
      → VoidReadsLeft d w at edges₀ count₀ edges count → at < length w → from ≡ number_in w at
      → to ≡ number_in w (at + 1) → replaced ≡ void_in table from to
      → (Each (λ i. i < 4096) (slots_in replaced) → count < 2 ^ 32
      → Fills (void_words table replaced (current_net (past_in table) (net_in w (at + 1)))) edges count edges₁ count₁)
      → VoidReadsLeft d w (at + 2) edges₀ count₀ edges₁ count₁
  unfolding pair_edges
  void-reads-step {at} {count = count} {count₁ = count₁} {replaced = replaced} {edges = edges} {edges₁ = edges₁}
      along inside from_is to_is replaced-is stored =
      let accepts-is = accepted-read mode w accepts in
      let low = accepts-is.low in
      let short = accepts-is.short in
      let room = along.room in
      let turn = pair_turn d w along.place inside in
      let kind = pair_of d (net_pair w at) in
      let told : replaced ≡ void_by (driver_of_net (net_in w at)) kind =
      rw (replaced-is, from_is, to_is) (void-told d w is.tells turn) in
      let node = void-low (total d) (net_in w at) turn.from kind in
      let lower : Each (λ i. i < 4096) (slots_in (void_by (driver_of_net (net_in w at)) kind)) =
      each_map (slots_in (void_by (driver_of_net (net_in w at)) kind)) (λ i under. omega arith) node in
      let fills : Fills (of_pair d (net_pair w at) kind) edges count edges₁ count₁ =
      rw (told, pair-words d is (net_pair w at) turn.to kind) at (stored (rw told lower) (omega arith)) in
      let few = pair-few d (net_pair w at) kind in
      let many = fills.many in
      record {
        place = turn.next;
        left = left_turn (ap (pair_edges d) turn.first) along.left fills;
        room = omega arith;
      }

module _ {w : List ℕ} {d : Design} where
  pub void-reads-end : {at count₀ count : ℕ} {edges₀ edges : List ℕ} → VoidReadsLeft d w at edges₀ count₀ edges count
      → length w ≤ at → Fills (pair_edges d d.net_reps) edges₀ count₀ edges count × (count ≤ length w)
  unfolding pair_edges
  void-reads-end along past =
      let ends = pairs_end d w along.place past in
      (left_end (ap (pair_edges d) ends.0) along.left, let room = along.room in let last = ends.1 in omega arith)

-- ---- both

-- The cell replacements stand between the cells and the net replacements.
reps_low : (d : Design) {w : List ℕ} {least at end : ℕ} {reps : List Placed}
    → Climb (IsReplacement w (total d) (at_slot d.cells) d.base) (new_cell w) least at reps end → at ≤ end
reps_low d (R.done ended) = omega arith
reps_low d (R.taken is rest) = let low = reps_low d rest in let ends = is.record_is.ends in omega arith

module _ (mode : Mode) (w : List ℕ) {d : Design} {replacements pairs : ℕ}
    (accepts : read mode w ≡ accepted d replacements pairs) where
  pub reps_between : replacements ≤ pairs
  reps_between = reps_low d (stages (accepted-read mode w accepts)).reps

  -- The cells' words and then the Voids' are those of all reads.
  pub filled : {edges edges₁ edges₂ : List ℕ} {r₁ r₂ : ℕ} → Fills (cell_edges d d.cells) edges 0 edges₁ r₁
      → Fills (pair_edges d d.net_reps) edges₁ r₁ edges₂ r₂ → r₂ ≤ length w → Filled d edges edges₂ r₂
  unfolding edges_of
  filled cells voids low =
      let whole = fills_append cells voids in
      let many = whole.many in
      let short = (accepted-read mode w accepts).short in
      record { slice = whole.slice; many = omega arith; few = omega arith }
