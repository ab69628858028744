-- `trits::tv_not` meets its contract: its calls are those of the model, one after the other. Assumes nothing.
use Rattle.builder.proofs.Laws.{ran_ret}
use Rattle.smt.specs.Builder.{tv_not}
use Rattle.trits.proofs.tv_not.Goals as goal

pub returns : goal.returns
unfolding tv_not
returns c =
    λ i names marks.
    rw c.trits.ensures (ran_ret _ (c.build_bvnot-y.ensures i names marks))
