-- `bitvec::bvult` meets its contract: the order is that of the numbers. Assumes nothing.
use Rattle.bitvec.proofs.Lemmas.{word_bvult}
use Rattle.bitvec.proofs.bvult.Goals as goal

pub returns : goal.returns
returns c =
    let a = c.args in
    rw (c.reduce.ensures, c.reduce-2.ensures) (word_bvult a.width a.s a.t)
