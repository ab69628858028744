-- `steps::add_cell` meets its contract: an Input's nets are declared; of any other cell the claim is made and asserted.
-- Assumes nothing.
use mathlib.Core.Path.{sym, ◌∙◌}
use Rattle.nets.specs.Reads.{past_in}
use Rattle.steps.proofs.Inputs.{did-input, did-claim}
use Rattle.steps.proofs.add_cell.Goals as goal

pub returns-then-is_input : goal.returns-then-is_input
returns-then-is_input c =
    λ bounded shaped narrow low.
    let args = c.args in
    did-input (past_in args.table.now) _ _ args.fields.now args.op
    (sym c.is_input.ensures ∙ c.if-is_input.true)
    (c.curr_value-output.ensures narrow low)

pub returns : goal.returns
returns c =
    λ bounded shaped narrow low.
    let args = c.args in
    did-claim (past_in args.table.now) _ _ args.fields.now args.op
    (sym c.is_input.ensures ∙ c.if-is_input.false)
    (c.claim-equal.ensures bounded shaped narrow low) c.assert_claim.ensures
