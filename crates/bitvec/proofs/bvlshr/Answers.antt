-- `bitvec::bvlshr` meets its contract: below 64 a quotient by a power of two, from 64 on nothing is left. Assumes
-- nothing.
use Rattle.bitvec.proofs.Lemmas.{word_bvlshr, word_bvlshr_out}
use Rattle.bitvec.proofs.bvlshr.Goals as goal

pub returns-then-amount-lt64 : goal.returns-then-amount-lt64
returns-then-amount-lt64 c =
    let a = c.args in
    rw (c.reduce-amount.ensures, c.reduce.ensures) (word_bvlshr a.width a.s a.t)

pub returns-else-amount-lt64 : goal.returns-else-amount-lt64
returns-else-amount-lt64 c =
    let a = c.args in
    word_bvlshr_out a.width a.s a.t (rw c.reduce-amount.ensures at c.if-amount-lt64.false)
