-- `bitvec::bvnot` meets its contract: the complement of a word, reduced, is that of the vector. Assumes nothing.
use Rattle.std.proofs.Common.{◌∙◌, arith}
use Rattle.bitvec.proofs.Lemmas.{exact, word_bvnot}
use Rattle.bitvec.proofs.bvnot.Goals as goal

pub returns : goal.returns
returns c =
    let a = c.args in
    c.reduce.ensures ∙ exact _ _ _ (λ _ small. word_bvnot a.width a.s small (omega arith))
