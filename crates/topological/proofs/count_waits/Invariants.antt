-- `topological::count_waits` meets its contract. The invariant: the edges passed are counted. Assumes nothing.
use Rattle.loops.specs.Edges.{done_in}
use Rattle.topological.specs.Waiting.{waiting}
use Rattle.topological.specs.State.{Words}
use Rattle.topological.proofs.count_waits.Given as goal

abbrev pub invariant-loop-edge : goal.invariant-loop-edge
invariant-loop-edge l = Words l.waits (waiting l.edges (done_in l.flags) l.edge-index)
