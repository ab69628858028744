-- `builder::build_bitvec_lit` meets its contract: it is one call of the engine. Assumes nothing.
use Rattle.engine.specs.Call.{lit}
use Rattle.builder.proofs.Laws.{ran_op}
use Rattle.builder.proofs.build_bitvec_lit.Goals as goal

pub returns : goal.returns
returns c =
    λ s same. ran_op (lit s) _ (rw same at c.build_bitvec_lit.ensures) c.made.ensures
