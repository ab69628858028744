-- `bitvec::bvcomp` meets its contract: its one bit is the answer of `equal`. Assumes nothing.
use Rattle.std.proofs.Common.{sym, ap, ◌∙◌}
use Rattle.bitvec.specs.Bits.{bit}
use Rattle.bitvec.proofs.Lemmas.{word_bvcomp}
use Rattle.bitvec.proofs.bvcomp.Goals as goal

pub returns-then-equal : goal.returns-then-equal
returns-then-equal c =
    let a = c.args in
    ap bit (sym c.if-equal.true ∙ c.equal.ensures) ∙ word_bvcomp a.width a.s a.t

pub returns-else-equal : goal.returns-else-equal
returns-else-equal c =
    let a = c.args in
    ap bit (sym c.if-equal.false ∙ c.equal.ensures) ∙ word_bvcomp a.width a.s a.t
