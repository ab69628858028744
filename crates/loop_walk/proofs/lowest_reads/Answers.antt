-- `loop_walk::lowest_reads` meets its contract. The invariant: the table has the lowest reads of the words passed.
-- Assumes nothing.
use mathlib.Core.Path.{ap, ◌∙◌}
use lib.ListN.{length, length-replicate}
use Rattle.loop_walk.proofs.NotedLaws.{notes_start, notes_turn}
use Rattle.loop_walk.proofs.lowest_reads.Goals as goal

pub loop-edge-init : goal.loop-edge-init
loop-edge-init c = rw c.requires.1 (notes_start c.args.flags.now)

pub loop-edge-preserved : goal.loop-edge-preserved
loop-edge-preserved c =
    let long = c.loop-edge.auto.next ∙ ap length c.requires.1 ∙ length-replicate 4096 (length c.args.flags.now) in
    rw c.note_read.ensures
    (notes_turn c.args.edges.now c.args.flags.now c.loop-edge.next c.loop-edge.edge-index c.requires.0 long
    c.loop-edge-test.true c.loop-edge.invariant)
