-- `trits::tv_is1` meets its contract: its calls are those of the model, one after the other. Assumes nothing.
use Rattle.builder.proofs.Laws.{ran_bind}
use Rattle.smt.specs.Builder.{tv_is1}
use Rattle.trits.proofs.tv_is1.Goals as goal

pub returns : goal.returns
unfolding tv_is1
returns c =
    λ i names marks.
    ran_bind _ (c.build_bvnot-x.ensures i names marks)
    (c.build_binary.ensures i i names marks)
