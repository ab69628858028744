-- `bitvec::bvor` meets its contract: the or of the words, reduced, is that of the vectors. Assumes nothing.
use Rattle.std.proofs.Common.{◌∙◌}
use Rattle.bitvec.proofs.Lemmas.{exact, word_bvor}
use Rattle.bitvec.proofs.bvor.Goals as goal

pub returns : goal.returns
returns c = let a = c.args in c.reduce.ensures ∙ exact _ _ _ (λ _ _. word_bvor a.width a.s a.t)
