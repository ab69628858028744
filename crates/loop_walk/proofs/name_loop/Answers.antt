-- `loop_walk::name_loop` meets its contract: the walk by the table of the lowest reads, from the lowest node that is
-- not done, has the loop that is found and written. Assumes nothing.
use mathlib.Core.Path.{refl}
use Rattle.loops.specs.Edges.{has_edge}
use Rattle.loop_walk.proofs.FirstLaws.{left_below}
use Rattle.loop_walk.proofs.NamedLaws.{named_by}
use Rattle.loop_walk.proofs.name_loop.Goals as goal

pub follow-found-requires : goal.follow-found-requires
follow-found-requires c =
    let edges = c.args.edges.now in
    let low = left_below _ (has_edge edges) _ c.if-n-gt4096.false in
    (c.if-n-gt4096.false, rw (c.lowest_left-start.ensures (has_edge edges)) low, refl)

pub returns : goal.returns
returns c =
    λ small.
    named_by _ _ _ small c.lowest_reads.ensures _ _ _ _ _ (c.lowest_left-start.ensures _)
    c.follow-found.ensures.1 c.write_loop.ensures
