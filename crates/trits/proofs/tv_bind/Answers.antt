-- `trits::tv_bind` meets its contract: two names declared, the temporaries counted, the equations asserted. Assumes
-- nothing.
use Rattle.bits.proofs.Temporaries.{ran_tv-bind}
use Rattle.trits.proofs.tv_bind.Goals as goal

pub returns : goal.returns
returns c =
    λ i.
    ran_tv-bind _ _ _ _ c.declare_temporary-x.ensures
    c.declare_temporary-y.ensures c.next_temporary-next.ensures
    c.assert_eq-equal_x.ensures c.assert_eq-equal_y.ensures
