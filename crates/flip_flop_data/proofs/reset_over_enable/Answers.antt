-- `flip_flop_data::reset_over_enable` meets its contract: enable, then reset. Assumes nothing.
use Rattle.builder.proofs.Laws.{ran_bind}
use Rattle.smt.specs.Builder.{reset_to, loaded}
use Rattle.builder.specs.Ran.{trits}
use Rattle.nets.specs.Reads.{past_in}
use Rattle.flip_flop_data.specs.Fields.{flip_flop_in}
use Rattle.flip_flop_data.proofs.reset_over_enable.Goals as goal

pub returns : goal.returns
unfolding loaded
returns c =
    λ small narrow low i.
    let args = c.args in
    let over =
    reset_to (past_in args.table.now) (flip_flop_in args.fields.now) args.width (trits 1 args.reset) in
    ran_bind over (c.enabled-data.ensures narrow low args.fields.now i)
    (c.reset_to.ensures small (past_in args.table.now) args.width _ _)
