-- `builder::build_bvnot` meets its contract: it is one call of the engine. Assumes nothing.
use Rattle.builder.proofs.Laws.{ran_op}
use Rattle.builder.proofs.build_bvnot.Goals as goal

pub returns : goal.returns
returns c = λ i. ran_op _ _ c.build_bvnot.ensures c.made.ensures
