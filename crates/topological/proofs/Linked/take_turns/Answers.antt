-- `topological::Linked::take_turns` meets its contract. The invariant: what is written and cleared from here on comes to the
-- whole order, and the counts are those of the flags now. The measure is how much of the order is left. Assumes nothing.
use native.Mathlib.Omega.{arith}
use Rattle.topological.proofs.Turns.{turns_end, turn, turn_room, turn_less, turn_next}
use Rattle.topological.proofs.Linked.take_turns.Goals as goal

pub take-requires : goal.take-requires
take-requires c =
    let turning = c.loop-a.invariant in
    let next = turn turning c.in-Some.ensures in
    (next.low, next.undone, turning.counts)

pub overflow_add-k : goal.overflow_add-k
overflow_add-k c =
    omega (arith, turn_room c.loop-a.invariant c.in-Some.ensures, c.requires.0)

pub loop-a-smaller : goal.loop-a-smaller
loop-a-smaller c =
    turn_less c.loop-a.invariant c.in-Some.ensures c.take.ensures.0

pub loop-a-preserved : goal.loop-a-preserved
loop-a-preserved c =
    turn_next c.loop-a.invariant c.in-Some.ensures c.take.ensures.0 c.put.ensures c.take.ensures.1

pub returns : goal.returns
returns c = turns_end c.loop-a.invariant c.in_default.ensures
