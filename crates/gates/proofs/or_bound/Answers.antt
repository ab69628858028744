-- `gates::or_bound` meets its contract: its calls are those of the model, one after the other. Assumes nothing.
use Rattle.builder.proofs.Laws.{ran_bind}
use Rattle.gates.specs.Parts.{or_bound}
use Rattle.gates.proofs.or_bound.Goals as goal

pub returns : goal.returns
unfolding or_bound
returns c =
    λ i names marks.
    ran_bind _ (c.tv_is1-a_is1.ensures i names marks)
    (ran_bind _ (c.tv_is1-b_is1.ensures i names marks)
    (ran_bind _ (c.build_binary-y.ensures i i names marks)
    (c.undecided.ensures i names marks)))
