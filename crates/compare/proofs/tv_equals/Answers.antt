-- `compare::tv_equals` meets its contract: its calls are those of the model, one after the other. Assumes nothing.
use Rattle.builder.proofs.Laws.{ran_bind}
use Rattle.smt.specs.Builder.{tv_equals}
use Rattle.compare.specs.Parts.{equals_unless}
use Rattle.compare.proofs.tv_equals.Goals as goal

pub returns : goal.returns
unfolding tv_equals equals_unless
returns c =
    λ low i j names marks.
    ran_bind _ (c.build_binary-differ.ensures i j names marks)
    (ran_bind _ (c.build_binary-some_x.ensures i j names marks)
    (ran_bind _ (c.build_bvnot-no_x.ensures i names marks)
    (ran_bind _ (c.build_binary-unequal.ensures i i names marks)
    (ran_bind _ (c.bv_is_zero-none_unequal.ensures low i names marks)
    (ran_bind _ (c.build_not-any_unequal.ensures names marks)
    (c.equals_unless.ensures low i j names marks))))))
