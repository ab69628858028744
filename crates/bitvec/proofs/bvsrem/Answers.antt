-- `bitvec::bvsrem` meets its contract: each word stands for its vector, and the sign of s chooses as in SMT-LIB's own
-- expansion. Assumes nothing.
use Rattle.bitvec.proofs.WordDivisions.{word_bvsrem}
use Rattle.bitvec.proofs.bvsrem.Goals as goal

pub returns : goal.returns
returns c =
    let a = c.args in
    word_bvsrem a.width a.s a.t _ _ _ _ _ _ c.size-dividend.ensures c.size-divisor.ensures
    c.bvurem-remainder.ensures c.bvneg.ensures c.msb.ensures c.ite.ensures
