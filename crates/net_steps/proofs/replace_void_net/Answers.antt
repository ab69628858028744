-- `net_steps::replace_void_net` meets its contract: its calls are those of the model, one after the other. Assumes
-- nothing.
use Rattle.builder.proofs.Laws.{ran_bind}
use Rattle.order.specs.Verify.{replace_void_net}
use Rattle.net_steps.proofs.Laws.{did-asserted}
use Rattle.net_steps.proofs.replace_void_net.Goals as goal

pub returns : goal.returns
unfolding replace_void_net
returns c =
    λ low high.
    did-asserted (ran_bind _ (c.curr_net-from.ensures low)
    (ran_bind _ (c.net-to.ensures high)
    (c.tv_eq-equal.ensures 1 1 _ _))) c.assert_claim.ensures
