-- `strict::tv_divide` meets its contract: its calls are those of the model, one after the other. Assumes nothing.
use Rattle.builder.proofs.Laws.{ran_bind}
use Rattle.strict.proofs.tv_divide.Goals as goal

pub returns : goal.returns
returns c =
    λ low names marks.
    ran_bind _ (c.may_divide-defined.ensures low names marks) (c.tv_strict.ensures low names marks)
