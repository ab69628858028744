-- `compare::tv_less` meets its contract: its calls are those of the model, one after the other. Assumes nothing.
use Rattle.builder.proofs.Laws.{ran_bind, ran_ret}
use Rattle.smt.specs.Builder.{tv_less}
use Rattle.compare.proofs.tv_less.Goals as goal

pub returns : goal.returns
unfolding tv_less
returns c =
    λ low i j names marks.
    rw c.trits.ensures (ran_bind _ (c.bv_no_x-no_x.ensures low i j names marks)
    (ran_bind _ (c.build_not-any_x.ensures names marks)
    (ran_bind _ (c.bool_to_bv-x.ensures names marks)
    (ran_bind _ (c.build_compare-less.ensures i j names marks)
    (ran_ret _ (c.bool_to_bv-y.ensures names marks))))))
