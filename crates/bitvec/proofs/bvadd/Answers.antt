-- `bitvec::bvadd` meets its contract: what passes 2 ^ 64 does not count at any width. Assumes nothing.
use Rattle.std.proofs.Common.{◌∙◌}
use Rattle.bitvec.proofs.Lemmas.{wrapped, word_bvadd}
use Rattle.bitvec.proofs.bvadd.Goals as goal

pub returns : goal.returns
returns c =
    let a = c.args in
    c.reduce.ensures
    ∙ wrapped _ _ _ _ c.wrapping_add_u64.ensures.value (λ _ _. word_bvadd a.width a.s a.t)
