-- `trits::tv_is0` meets its contract: its calls are those of the model, one after the other. Assumes nothing.
use Rattle.builder.proofs.Laws.{ran_bind}
use Rattle.smt.specs.Builder.{tv_is0}
use Rattle.trits.proofs.tv_is0.Goals as goal

pub returns : goal.returns
unfolding tv_is0
returns c =
    λ i names marks.
    ran_bind _ (c.build_bvnot-y.ensures i names marks)
    (ran_bind _ (c.build_bvnot-x.ensures i names marks)
    (c.build_binary.ensures i i names marks))
