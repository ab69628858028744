-- `bitvec::bvand` meets its contract: the and of the words, reduced, is that of the vectors. Assumes nothing.
use Rattle.std.proofs.Common.{◌∙◌}
use Rattle.bitvec.proofs.Lemmas.{exact, word_bvand}
use Rattle.bitvec.proofs.bvand.Goals as goal

pub returns : goal.returns
returns c = let a = c.args in c.reduce.ensures ∙ exact _ _ _ (λ _ _. word_bvand a.width a.s a.t)
