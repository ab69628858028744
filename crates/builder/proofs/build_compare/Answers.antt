-- `builder::build_compare` meets its contract: it is one call of the engine. Assumes nothing.
use Rattle.builder.proofs.Laws.{ran_op}
use Rattle.builder.proofs.build_compare.Goals as goal

pub returns : goal.returns
returns c = λ i j. ran_op _ _ c.build_compare.ensures c.made.ensures
