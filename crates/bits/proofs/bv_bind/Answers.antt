-- `bits::bv_bind` meets its contract: a name declared, the temporaries counted, the equation asserted. Assumes nothing.
use Rattle.bits.proofs.Temporaries.{ran_bv-bind}
use Rattle.bits.proofs.bv_bind.Goals as goal

pub returns : goal.returns
returns c =
    λ i.
    ran_bv-bind _ _ _ c.declare_temporary-temp.ensures c.next_temporary-next.ensures
    c.assert_eq-equal.ensures
