-- `topological::start_ready` meets its contract. The invariant: the set has the ready nodes below `a`. Assumes nothing.
use lib.ListN.{get_or}
use Rattle.loops.specs.Edges.{done_in}
use Rattle.lowest_set.specs.Tree.{Holds}
use Rattle.topological.specs.State.{ready_by, up_to}
use Rattle.topological.proofs.start_ready.Given as goal

abbrev pub invariant-loop-a : goal.invariant-loop-a
invariant-loop-a l = Holds l.tree (up_to l.a (ready_by (done_in l.flags) (λ i. get_or l.waits i 0)))
