-- `loop_walk::follow` meets its contract. The invariant (`Walking`): the nodes met so far are all different, and the
-- table has the place of each. Assumes nothing.
use Rattle.loop_walk.proofs.WalkingLaws.{Walking}
use Rattle.loop_walk.proofs.follow.Given as goal

abbrev pub invariant-loop-k : goal.invariant-loop-k
invariant-loop-k l = Walking l.next l.n l.start l.met l.at l.k
