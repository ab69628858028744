-- `topological::sort_within` meets its contract: the tables of zeros are those of no edge, no count and no ready node,
-- and each keeps its length. Assumes nothing.
use Rattle.loops.specs.Edges.{done_in}
use Rattle.lowest_set.proofs.Changing.{empty_holds}
use Rattle.topological.proofs.Links.{links-none}
use Rattle.topological.proofs.Counting.{counts-none}
use Rattle.topological.proofs.Starting.{counts_start}
use Rattle.topological.proofs.sort_within.Goals as goal

pub link_edges-requires : goal.link_edges-requires
link_edges-requires c =
    links-none c.args.edges.now c.requires.0

pub count_waits-requires : goal.count_waits-requires
count_waits-requires c =
    (c.requires.0, counts-none c.args.edges.now (done_in c.args.flags.now))

pub start_ready-requires : goal.start_ready-requires
start_ready-requires c =
    (c.requires.1, empty_holds)

pub take_turns-requires : goal.take_turns-requires
take_turns-requires c =
    (c.requires.1, counts_start c.count_waits.ensures c.start_ready.ensures)
