-- `builder::build_not` meets its contract: it is one call of the engine. Assumes nothing.
use Rattle.builder.proofs.Laws.{ran_op}
use Rattle.builder.proofs.build_not.Goals as goal

pub returns : goal.returns
returns c = ran_op _ _ c.build_not.ensures c.made.ensures
