-- The words of a design's reads say its reads: the word for a and b stands among them just where node a reads node b.
-- A node is an asserted cell, whose words are its cell's, or a replaced Void, whose words are its net replacement's.
use mathlib.Core.Path.{◌≡◌, refl, ap, ◌∙◌}
use mathlib.Core.Bool.{Bool, true, false, ◌&&◌, false≢true}
use mathlib.Core.Option.{some}
use mathlib.Core.List.{List, append-nil}
use Prim.Native.Nat.{ℕ, ◌≤◌, ◌<◌}
use native.Mathlib.Omega.{arith}
use lib.Dec.{eqb}
use Rattle.logic.specs.Net.{Net}
use Rattle.cell.specs.Design.{Design, total, cell_of}
use Rattle.cell.specs.Role.{role, is_void}
use Rattle.cell.proofs.EachLaws.{each_map}
use Rattle.right.specs.Laid.{Laid, CellLaid}
use Rattle.rules.specs.Reads.{current_net, current_nets, current_reads}
use Rattle.working_out.specs.System as s
use Rattle.working_out.specs.System.{any, owns, is_node, start}
use Rattle.working_out.specs.Reading.{replacement, asserted, reads_past, node_of}
use Rattle.working_out.specs.Loop.{buf_of, node_cell, currently_read, reads}
use Rattle.working_out.proofs.SystemLaws.{owns_own, own_owns}
use Rattle.working_out.proofs.LayoutLaws.{belongs, belongs_low, each_at, at_each}
use Rattle.working_out.proofs.Nodes.{Kind, of_cell, of_replaced, kind, node_void, cell_node, void-is_node}
use Rattle.working_out.proofs.Replaced.{OfSlot, slot_of_pairs, pairs_of_slot}
use Rattle.loops.specs.Edges.{edge, has_edge}
use Rattle.loops.specs.Graph.{cell_edges, pair_edges, edges_of}
use Rattle.edges.proofs.AnyLaws.{same_truth, any_either, any-first, any-second}
use Rattle.edges.proofs.Low.{Low, net-low, reads-low}
use Rattle.edges.proofs.Words.{words-read, reads_word}
use Rattle.edges.proofs.Gathered.{FromCell, FromVoid, of_cells, in_cells_lem, of_pairs, in_pairs}

-- A replaced Void reads its replacement's `to`.
void-reads : (d : Design) (i : ℕ) (to : Net) → node_cell d i ≡ buf_of to
    → current_reads (reads_past d) (node_cell d i) ≡ current_net (reads_past d) to
unfolding current_nets
void-reads d i to same = ap (current_reads (reads_past d)) same ∙ append-nil (current_net (reads_past d) to)

module _ (d : Design) (laid : Laid d) where
  -- The slots that a cell reads, and those that a replaced Void reads, are below the total.
  cell-low : (i : ℕ) → i < total d → Low (total d) (current_reads (reads_past d) (cell_of d i).cell)
  cell-low i l =
      reads-low (total d) (reads_past d) (cell_of d i).cell
      (each_at (CellLaid d) d.cells 0 (total d) i laid.run (omega arith) l laid.cells).within

  void-low : OfSlot d (λ i to. Low (total d) (current_net (reads_past d) to)) d.net_reps
  void-low =
      slot_of_pairs d (λ i to. Low (total d) (current_net (reads_past d) to)) d.net_reps
      (each_map d.net_reps (λ q h k i from. net-low (total d) (reads_past d) q.to h.to) laid.nets)

  -- Node a reads node b; a word is the one for that.
  module _ (a b : ℕ) where
    abbrev Reads : Type 0
    Reads = reads d a b ≡ true

    abbrev is_word : ℕ → Bool
    is_word = eqb (edge a b)

    -- A node reads node b where one of the slots that its rule's cell reads belongs to b.
    node_reads : (l : List ℕ) → node_of d a ≡ some a → current_reads (reads_past d) (node_cell d a) ≡ l
        → any (owns (node_of d) b) l ≡ true → Reads
    unfolding s.reads currently_read
    node_reads l e same h = rw (owns_own (node_of d) a a e, same) h

    -- ---- Each word of an asserted cell is of a read, and each of a replaced Void.
    module _ (few : total d ≤ 4096) (low : b < total d) (node : start (node_of d) b ≡ false) where
      cell-says : (i : ℕ) → i < total d → FromCell d is_word Reads (cell_of d i)
      cell-says i l asserts w =
          let n = cell_node d laid i l asserts in
          let r = words-read d laid few a b low node (cell_of d i).slot _ (cell-low i l) w in
          node_reads _ (rw r.0 at n.0) (ap (current_reads (reads_past d)) (rw r.0 at n.1)) r.1

      void-says : OfSlot d (FromVoid d is_word Reads) d.net_reps
      void-says i to v e w =
          let n = void-is_node d laid i to v e in
          let r = words-read d laid few a b low node i _ (void-low i to v e) w in
          node_reads _ (rw r.0 at n) (rw r.0 at (void-reads d i to (node_void d i to v e))) r.1

      word_says : has_edge (edges_of d) a b ≡ true → Reads
      unfolding has_edge edges_of
      word_says e =
          any_either is_word (cell_edges d d.cells) (pair_edges d d.net_reps) e
          (of_cells d is_word Reads d.cells
          (at_each (FromCell d is_word Reads) d.cells 0 (total d) laid.run (λ i _ l. cell-says i l)))
          (of_pairs d is_word Reads d.net_reps
          (pairs_of_slot d (FromVoid d is_word Reads) d.net_reps laid.froms void-says))

    -- ---- Each read of an asserted cell has a word, and each of a replaced Void.
    abbrev InCells : Type 0
    InCells = any is_word (cell_edges d d.cells) ≡ true

    abbrev InPairs : Type 0
    InPairs = any is_word (pair_edges d d.net_reps) ≡ true

    cell_word : node_of d a ≡ some a → asserted (cell_of d a).cell ≡ true
        → any (owns (node_of d) b) (current_reads (reads_past d) (cell_of d a).cell) ≡ true → InCells
    cell_word own asserts h =
        let word = reads_word d a b (current_reads (reads_past d) (cell_of d a).cell) h in
        let l = belongs_low d laid a a own in
        each_at (FromCell d is_word InCells) d.cells 0 (total d) a laid.run (omega arith) l
        (in_cells_lem d is_word d.cells) asserts (rw (belongs d a a own).named word)

    void_word : (to : Net) → is_void (role (cell_of d a).cell) ≡ true → replacement d a ≡ some to
        → any (owns (node_of d) b) (current_net (reads_past d) to) ≡ true → InPairs
    void_word to v e h =
        let word = reads_word d a b (current_net (reads_past d) to) h in
        slot_of_pairs d (FromVoid d is_word InPairs) d.net_reps (in_pairs d is_word d.net_reps) a to v e word

    node_word : node_of d a ≡ some a → any (owns (node_of d) b) (current_reads (reads_past d) (node_cell d a)) ≡ true
        → has_edge (edges_of d) a b ≡ true
    unfolding has_edge edges_of
    node_word own h = go (kind d a (belongs d a a own).node)
      where
        go : Kind d a → any is_word (edges_of d) ≡ true
        go (of_cell v asserts same) =
            any-first is_word (cell_edges d d.cells) (pair_edges d d.net_reps) (cell_word own asserts (rw same at h))
        go (of_replaced to v e same) =
            any-second is_word (cell_edges d d.cells) (pair_edges d d.net_reps)
            (void_word to v e (rw (void-reads d a to same) at h))

    read-says : Reads → has_edge (edges_of d) a b ≡ true
    unfolding s.reads currently_read
    read-says e = go (is_node (node_of d) a) refl e
      where
        go : (t : Bool) → is_node (node_of d) a ≡ t
            → (t && any (owns (node_of d) b) (current_reads (reads_past d) (node_cell d a))) ≡ true
            → has_edge (edges_of d) a b ≡ true
        go true q h = node_word (own_owns (node_of d) a a q) h
        go false q h = absurd (false≢true h)

  -- The words say which nodes are read by which.
  pub edges_read : total d ≤ 4096 → (a b : ℕ) → b < total d → start (node_of d) b ≡ false
      → has_edge (edges_of d) a b ≡ reads d a b
  edges_read few a b low node =
      same_truth (has_edge (edges_of d) a b) (reads d a b) (word_says a b few low node) (read-says a b)
