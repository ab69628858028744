-- `trits::tv_eq` meets its contract: its calls are those of the model, one after the other. Assumes nothing.
use Rattle.builder.proofs.Laws.{ran_bind}
use Rattle.smt.specs.Builder.{tv_eq}
use Rattle.trits.proofs.tv_eq.Goals as goal

pub returns : goal.returns
unfolding tv_eq
returns c =
    λ i j names marks.
    ran_bind _ (c.build_bitvec_eq-x.ensures i j names marks)
    (ran_bind _ (c.build_bitvec_eq-y.ensures i j names marks)
    (c.build_and.ensures names marks))
