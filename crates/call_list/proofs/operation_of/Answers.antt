-- `call_list::operation_of` meets its contract: an arm or a test for each case; a number without one is beyond the
-- list. Assumes nothing.
use Rattle.call_list.proofs.OperationsLaws.{no_operation}
use Rattle.call_list.proofs.operation_of.Goals as goal

pub returns-in_default : goal.returns-in_default
returns-in_default c = no_operation c.args.number c.in_default.in_default-own.rest
