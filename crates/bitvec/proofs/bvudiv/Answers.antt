-- `bitvec::bvudiv` meets its contract: by zero all ones, else the quotient of the numbers. Assumes nothing.
use Rattle.std.proofs.Common.{sym, ◌∙◌, arith}
use Rattle.bitvec.proofs.WordDivisions.{word_bvudiv, word_bvudiv-zero}
use Rattle.bitvec.proofs.bvudiv.Goals as goal

pub returns-then-divisor-eq0 : goal.returns-then-divisor-eq0
returns-then-divisor-eq0 c =
    let a = c.args in
    word_bvudiv-zero a.width a.s a.t _ (sym c.reduce-divisor.ensures ∙ c.if-divisor-eq0.true) c.bvnot.ensures

pub returns : goal.returns
returns c =
    let a = c.args in
    rw (c.reduce-divisor.ensures, c.reduce.ensures) (word_bvudiv a.width a.s a.t (omega arith))
