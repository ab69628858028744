-- `strict::may_divide` meets its contract: its calls are those of the model, one after the other. Assumes nothing.
use Rattle.builder.proofs.Laws.{ran_bind}
use Rattle.smt.specs.Builder.{may_divide}
use Rattle.strict.proofs.may_divide.Goals as goal

pub returns : goal.returns
unfolding may_divide
returns c =
    λ low names marks.
    let n = c.args.n in
    ran_bind _ (c.bv_no_x-no_x.ensures low n n names marks)
    (ran_bind _ (c.bv_is_zero-by_zero.ensures low n names marks)
    (ran_bind _ (c.build_not-not_by_zero.ensures names marks)
    (c.build_and.ensures names marks)))
