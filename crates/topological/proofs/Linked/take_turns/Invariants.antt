-- `topological::Linked::take_turns` meets its contract. The invariant: what is written and cleared from here on comes to the
-- whole order, and the counts are those of the flags now. The measure is how much of the order is left. Assumes nothing.
use lib.ListN.{length}
use Rattle.loops.specs.Edges.{order_in}
use Rattle.topological.proofs.Turns.{Turning}
use Rattle.topological.proofs.Linked.take_turns.Given as goal

abbrev pub invariant-loop-a : goal.invariant-loop-a
invariant-loop-a l = Turning l.self.edges.now l.initial.flags l.initial.slots l.flags l.waits l.tree l.slots l.k

abbrev pub decreases-loop-a : goal.decreases-loop-a
decreases-loop-a l = length (order_in l.self.edges.now l.flags)
