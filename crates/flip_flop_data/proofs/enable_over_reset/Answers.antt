-- `flip_flop_data::enable_over_reset` meets its contract: reset, then enable. Assumes nothing.
use Rattle.builder.proofs.Laws.{ran_bind}
use Rattle.smt.specs.Builder.{loaded}
use Rattle.flip_flop_data.proofs.enable_over_reset.Goals as goal

pub returns : goal.returns
unfolding loaded
returns c =
    λ small narrow low i.
    let args = c.args in
    ran_bind _ (c.reset_to-data.ensures small _ i _ _)
    (c.enabled.ensures narrow low args.fields.now args.width)
