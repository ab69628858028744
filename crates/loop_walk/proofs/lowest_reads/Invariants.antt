-- `loop_walk::lowest_reads` meets its contract. The invariant: the table has the lowest reads of the words passed. Assumes nothing.
use lib.ListN.{take}
use Rattle.loop_walk.specs.Reads.{LowestReads}
use Rattle.loop_walk.proofs.lowest_reads.Given as goal

abbrev pub invariant-loop-edge : goal.invariant-loop-edge
invariant-loop-edge l = LowestReads (take l.edge-index l.edges) l.flags l.next
