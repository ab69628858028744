-- `running::pass` meets its contract: the walk does the steps of the list, and check asks the terms that it leaves
-- first in the table. Assumes nothing.
use Rattle.running.proofs.Passes.{passes}
use Rattle.running.proofs.pass.Goals as goal

pub returns : goal.returns
returns c =
    λ d accepts tells size.
    passes (c.work-s.ensures d accepts tells size) c.work-s.auto.eqs
    c.min-asked.ensures c.check-counts.ensures
