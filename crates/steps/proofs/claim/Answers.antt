-- `steps::claim` meets its contract: its calls are those of the model, one after the other. Assumes nothing.
use Rattle.builder.proofs.Laws.{ran_bind}
use Rattle.order.specs.Verify.{claim}
use Rattle.steps.proofs.claim.Goals as goal

pub returns : goal.returns
unfolding claim
returns c =
    λ bounded shaped narrow low.
    let terms = c.cell-terms.ensures bounded shaped narrow low in
    ran_bind _ terms.1
    (ran_bind _ (c.curr_value-output.ensures narrow low)
    (c.tv_eq.ensures _ terms.0 _ _))
