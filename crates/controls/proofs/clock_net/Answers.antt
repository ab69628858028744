-- `controls::clock_net` meets its contract: its calls are those of the model, one after the other. Assumes nothing.
use Rattle.builder.proofs.Laws.{ran_bind}
use Rattle.smt.specs.Builder.{clock_net}
use Rattle.controls.proofs.clock_net.Goals as goal

pub returns : goal.returns
unfolding clock_net
returns c =
    λ low.
    ran_bind _ (c.curr_net-now.ensures low)
    (ran_bind _ (c.invert_net-now.ensures _ _)
    (ran_bind _ (c.past_net-was.ensures low)
    (ran_bind _ (c.invert_net-was.ensures _ _)
    (ran_bind _ (c.tv_not-was_not.ensures 1 _ _)
    (c.tv_and.ensures 1 1 _ _)))))
