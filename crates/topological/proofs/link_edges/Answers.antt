-- `topological::link_edges` meets its contract: the two words stored are those of one edge more. Assumes nothing.
use Rattle.topological.proofs.Links.{links_turn}
use Rattle.topological.proofs.link_edges.Goals as goal

pub loop-e-preserved : goal.loop-e-preserved
loop-e-preserved c =
    rw (c.put-in-loop-e.ensures, c.put.ensures, c.word_at-last.ensures, c.read_of-read.ensures)
    (links_turn c.loop-e.e c.loop-e.invariant c.loop-e-test.true)
