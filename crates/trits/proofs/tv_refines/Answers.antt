-- `trits::tv_refines` meets its contract: its calls are those of the model, one after the other. Assumes nothing.
use Rattle.builder.proofs.Laws.{ran_bind}
use Rattle.smt.specs.Builder.{tv_refines}
use Rattle.trits.proofs.tv_refines.Goals as goal

pub returns : goal.returns
unfolding tv_refines
returns c =
    λ i j names marks.
    ran_bind _ (c.build_bvnot-from_def.ensures i names marks)
    (ran_bind _ (c.build_binary-both_x.ensures j i names marks)
    (ran_bind _ (c.build_bitvec_eq-x.ensures j j names marks)
    (ran_bind _ (c.build_binary-from_y.ensures i i names marks)
    (ran_bind _ (c.build_binary-to_y.ensures i j names marks)
    (ran_bind _ (c.build_bitvec_eq-y.ensures i i names marks)
    (c.build_and.ensures names marks))))))
