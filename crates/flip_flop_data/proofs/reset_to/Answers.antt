-- `flip_flop_data::reset_to` meets its contract: its calls are those of the model, one after the other. Assumes
-- nothing.
use Rattle.builder.proofs.Laws.{ran_bind}
use Rattle.smt.specs.Builder.{reset_to}
use Rattle.flip_flop_data.proofs.reset_to.Goals as goal

pub returns : goal.returns
unfolding reset_to
returns c =
    λ small reads_past i names marks.
    ran_bind _ (c.reset_value-to.ensures small names marks)
    (c.tv_mux.ensures 1 _ i names marks)
