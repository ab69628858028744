-- `net_steps::join_pasts` meets its contract: its calls are those of the model, one after the other. Assumes nothing.
use Rattle.builder.proofs.Laws.{ran_bind}
use Rattle.order.specs.Verify.{join_pasts}
use Rattle.net_steps.proofs.Laws.{did-asserted}
use Rattle.net_steps.proofs.join_pasts.Goals as goal

pub returns : goal.returns
unfolding join_pasts
returns c =
    λ low high.
    did-asserted (ran_bind _ (c.past_net-from.ensures low)
    (ran_bind _ (c.past_net-to.ensures high)
    (c.tv_eq-equal.ensures 1 1 _ _))) c.assert_claim.ensures
