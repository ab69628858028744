-- Document 02, change 4: the reads, the order and the loop of a design.
use Rattle.std.specs.Prelude.{Bool, cond, List, [], ◌∷◌, ◌++◌, map, ℕ}
use Rattle.logic.specs.Net.{Net, constant, slot}
use Rattle.logic.specs.Table.{tab}
use Rattle.cell.specs.Design.{Design, Placed, NetPair, total, cell_of}
use Rattle.rules.specs.Reads.{current_net, current_reads}
use Rattle.working_out.specs.Graph as g
use Rattle.working_out.specs.System.{is_node, start}
use Rattle.working_out.specs.Reading.{Pair, equal, of_void, of_dffs, ordinary, pair_of, reads_past, asserted, node_of}
use Rattle.working_out.specs.Loop.{reads, order}
use Rattle.loops.specs.Edges.{edge}
use Rattle.loops.specs.Run.{loop_run}

-- The words of the reads of node a, of the slots that it reads currently.
abbrev pub edges_from : Design → ℕ → List ℕ → List ℕ
edges_from d a read = map (λ i. edge a (cell_of d i).slot) read

-- Of every asserted cell.
unfoldable pub cell_edges : Design → List Placed → List ℕ
cell_edges d [] = []
cell_edges d (p ∷ cells) =
    cond (asserted p.cell) (edges_from d p.slot (current_reads (reads_past d) p.cell)) [] ++ cell_edges d cells

-- Of every replaced Void.
abbrev pub void_edges : Design → Net → Net → List ℕ
void_edges d (constant t) to = []
void_edges d (slot i) to = edges_from d i (current_net (reads_past d) to)

abbrev pub of_pair : Design → NetPair → Pair → List ℕ
of_pair d p equal = []
of_pair d p of_void = void_edges d p.from p.to
of_pair d p of_dffs = []
of_pair d p ordinary = []

unfoldable pub pair_edges : Design → List NetPair → List ℕ
pair_edges d [] = []
pair_edges d (p ∷ pairs) = of_pair d p (pair_of d p) ++ pair_edges d pairs

unfoldable pub edges_of : Design → List ℕ
edges_of d = cell_edges d d.cells ++ pair_edges d d.net_reps

-- A flag for each slot, 1 for the nodes.
unfoldable pub node_flags : Design → List ℕ
node_flags d = tab (total d) (λ a. cond (is_node (node_of d) a) 1 0)

-- The nodes that got ready, and the numbers that are no nodes.
unfoldable pub got_ready : Design → ℕ → Bool
got_ready d = g.mark_all (total d) (reads d) (start (node_of d)) (order d)

-- The loop that is named, where there is one.
unfoldable pub named_loop : Design → List ℕ
named_loop d = loop_run (total d) (reads d) (got_ready d)
