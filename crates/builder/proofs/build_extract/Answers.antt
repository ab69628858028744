-- `builder::build_extract` meets its contract: it is one call of the engine. Assumes nothing.
use Rattle.builder.proofs.Laws.{ran_op}
use Rattle.builder.proofs.build_extract.Goals as goal

pub returns : goal.returns
returns c = λ i. ran_op _ _ c.build_extract.ensures c.made.ensures
