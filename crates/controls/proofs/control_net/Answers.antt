-- `controls::control_net` meets its contract: its calls are those of the model, one after the other. Assumes nothing.
use Rattle.builder.proofs.Laws.{ran_bind}
use Rattle.smt.specs.Builder.{control_net}
use Rattle.controls.proofs.control_net.Goals as goal

pub returns : goal.returns
unfolding control_net
returns c =
    λ low.
    ran_bind _ (c.net-a.ensures low) (c.invert_net.ensures _ _)
