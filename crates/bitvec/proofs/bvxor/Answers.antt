-- `bitvec::bvxor` meets its contract: the exclusive or of the words, reduced, is that of the vectors. Assumes nothing.
use Rattle.std.proofs.Common.{◌∙◌}
use Rattle.bitvec.proofs.Lemmas.{exact, word_bvxor}
use Rattle.bitvec.proofs.bvxor.Goals as goal

pub returns : goal.returns
returns c = let a = c.args in c.reduce.ensures ∙ exact _ _ _ (λ _ _. word_bvxor a.width a.s a.t)
