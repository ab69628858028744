-- `design::pass` meets its contract: the running counts of a pass, and what it leaves of a list that is accepted.
-- Assumes nothing.
use Rattle.design.proofs.Verifies.{passes}
use Rattle.design.proofs.pass.Goals as goal

pub returns : goal.returns
returns c =
    λ ready.
    passes ready c.well_formed.1.1.1.1.0.0 c.requires.1 (c.requires.2 ready)
    (c.run.ensures ready.d ready.is ready.tells ready.size)
