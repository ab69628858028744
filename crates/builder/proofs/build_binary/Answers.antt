-- `builder::build_binary` meets its contract: it is one call of the engine. Assumes nothing.
use Rattle.builder.proofs.Laws.{ran_op}
use Rattle.builder.proofs.build_binary.Goals as goal

pub returns : goal.returns
returns c = λ i j. ran_op _ _ c.build_binary.ensures c.made.ensures
