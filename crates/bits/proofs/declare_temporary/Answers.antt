-- `bits::declare_temporary` meets its contract: it is one call of the engine. Assumes nothing.
use Rattle.bits.proofs.Temporaries.{called-one}
use Rattle.bits.proofs.declare_temporary.Goals as goal

pub returns : goal.returns
returns c =
    called-one _ c.declare_bitvec_const.ensures c.made.ensures
