-- `bitvec::bvneg` meets its contract: the complement of a word and one more, reduced, is the vector negated. Assumes
-- nothing.
use Rattle.std.proofs.Common.{◌∙◌, arith}
use Rattle.bitvec.proofs.Lemmas.{wrapped}
use Rattle.bitvec.proofs.WordDivisions.{word_bvneg}
use Rattle.bitvec.proofs.bvneg.Goals as goal

pub returns : goal.returns
returns c =
    let a = c.args in
    c.reduce.ensures
    ∙ wrapped _ _ _ _ c.wrapping_add_u64.ensures.value (λ _ small. word_bvneg a.width a.s small (omega arith))
