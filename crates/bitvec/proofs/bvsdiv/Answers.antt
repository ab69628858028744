-- `bitvec::bvsdiv` meets its contract: each word stands for its vector, and the signs choose as in SMT-LIB's own
-- expansion. Assumes nothing.
use Rattle.bitvec.proofs.WordDivisions.{word_bvsdiv}
use Rattle.bitvec.proofs.bvsdiv.Goals as goal

pub returns : goal.returns
returns c =
    let a = c.args in
    word_bvsdiv a.width a.s a.t _ _ _ _ _ _ _ c.size-dividend.ensures c.size-divisor.ensures
    c.bvudiv-quotient.ensures c.bvneg.ensures c.msb.ensures c.msb-2.ensures
    c.ite.ensures
