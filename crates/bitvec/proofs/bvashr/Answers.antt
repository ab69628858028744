-- `bitvec::bvashr` meets its contract: the sign chooses as in SMT-LIB's own expansion, and each word stands for its
-- vector. Assumes nothing.
use Rattle.std.proofs.Common.{true, false, sym, ◌∙◌}
use Rattle.bitvec.proofs.Lemmas.{shifted_complement, word_bvashr}
use Rattle.bitvec.proofs.bvashr.Goals as goal

pub returns-then-msb : goal.returns-then-msb
returns-then-msb c =
    let a = c.args in
    c.bvnot-then-msb.ensures
    ∙ shifted_complement a.width a.s a.t _ _ c.bvnot.ensures c.bvlshr.ensures
    ∙ word_bvashr a.width a.s a.t true (sym c.if-msb.true ∙ c.msb.ensures)

pub returns-else-msb : goal.returns-else-msb
returns-else-msb c =
    let a = c.args in
    c.bvlshr-else-msb.ensures ∙ word_bvashr a.width a.s a.t false (sym c.if-msb.false ∙ c.msb.ensures)
