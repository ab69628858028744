-- `topological::link_edges` meets its contract. The invariant: the edges before `e` are linked. Assumes nothing.
use Rattle.topological.specs.State.{Links}
use Rattle.topological.proofs.link_edges.Given as goal

abbrev pub invariant-loop-e : goal.invariant-loop-e
invariant-loop-e l = Links l.edges l.link l.head l.e
