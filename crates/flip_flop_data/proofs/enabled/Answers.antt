-- `flip_flop_data::enabled` meets its contract: its calls are those of the model, one after the other. Assumes nothing.
use Rattle.builder.proofs.Laws.{ran_bind}
use Rattle.smt.specs.Builder.{enabled}
use Rattle.flip_flop_data.proofs.enabled.Goals as goal

pub returns : goal.returns
unfolding enabled
returns c =
    λ narrow low fields i.
    ran_bind _ (c.past_value-old.ensures narrow low)
    (c.tv_mux.ensures 1 i _ _ _)
