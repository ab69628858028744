-- `trits::tv_extract` meets its contract: its calls are those of the model, one after the other. Assumes nothing.
use Rattle.builder.proofs.Laws.{ran_bind, ran_ret}
use Rattle.smt.specs.Builder.{tv_extract}
use Rattle.trits.proofs.tv_extract.Goals as goal

pub returns : goal.returns
unfolding tv_extract
returns c =
    λ i names marks.
    rw c.trits.ensures (ran_bind _ (c.build_extract-x.ensures i names marks)
    (ran_ret _ (c.build_extract-y.ensures i names marks)))
