-- `bitvec::size` meets its contract: the sign chooses between the vector negated and itself. Assumes nothing.
use Rattle.bitvec.proofs.WordDivisions.{word_size}
use Rattle.bitvec.proofs.size.Goals as goal

pub returns : goal.returns
returns c =
    let a = c.args in
    word_size a.width a.s _ _ _ c.msb.ensures c.bvneg.ensures c.ite.ensures
