-- `topological::Linked::release` meets its contract. The invariant: the reads after the edge `e` are taken off. The measure is
-- that edge, as the one before it that reads the same node is lower. Assumes nothing.
use Rattle.topological.proofs.Settling.{Releasing}
use Rattle.topological.proofs.Linked.release.Given as goal

abbrev pub invariant-loop-p : goal.invariant-loop-p
invariant-loop-p l = Releasing l.self.edges.now l.flags l.a l.e l.waits l.tree

abbrev pub decreases-loop-p : goal.decreases-loop-p
decreases-loop-p l = l.e
