-- `bitvec::bvurem` meets its contract: by zero the first operand, else the remainder of the numbers. Assumes nothing.
use Rattle.std.proofs.Common.{sym, ◌∙◌, arith}
use Rattle.bitvec.proofs.WordDivisions.{word_bvurem, word_bvurem-zero}
use Rattle.bitvec.proofs.bvurem.Goals as goal

pub returns-then-divisor-eq0 : goal.returns-then-divisor-eq0
returns-then-divisor-eq0 c =
    let a = c.args in
    word_bvurem-zero a.width a.s a.t _ (sym c.reduce-divisor.ensures ∙ c.if-divisor-eq0.true)
    c.reduce.ensures

pub returns : goal.returns
returns c =
    let a = c.args in
    rw (c.reduce-divisor.ensures, c.reduce-2.ensures) (word_bvurem a.width a.s a.t (omega arith))
