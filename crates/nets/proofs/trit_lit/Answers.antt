-- `nets::trit_lit` meets its contract: a literal of one trit, by the two bits that are its numbers. Assumes nothing.
use mathlib.Core.List.{[], ◌∷◌}
use Rattle.nets.proofs.Laws.{bit-lit}
use Rattle.nets.proofs.trit_lit.Goals as goal

pub returns : goal.returns
returns c =
    c.tv_lit.ensures (_ ∷ [])
    (rw c.x_bit.ensures (bit-lit _)) (rw c.y_bit.ensures (bit-lit _))
