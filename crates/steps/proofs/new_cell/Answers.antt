-- `steps::new_cell` meets its contract: its calls are those of the model, one after the other. Assumes nothing.
use Rattle.builder.proofs.Laws.{ran_bind}
use Rattle.order.specs.Verify.{new_cell}
use Rattle.net_steps.proofs.Laws.{did-obliged}
use Rattle.steps.proofs.new_cell.Goals as goal

pub returns : goal.returns
unfolding new_cell
returns c =
    λ bounded shaped narrow low.
    let terms = c.cell-terms.ensures bounded shaped narrow low in
    did-obliged (ran_bind _ terms.1
    (ran_bind _ (c.curr_value-output.ensures narrow low)
    (c.tv_refines.ensures _ terms.0 _ _)))
