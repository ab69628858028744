-- `gates::and_bound` meets its contract: its calls are those of the model, one after the other. Assumes nothing.
use Rattle.builder.proofs.Laws.{ran_bind}
use Rattle.gates.specs.Parts.{and_bound}
use Rattle.gates.proofs.and_bound.Goals as goal

pub returns : goal.returns
unfolding and_bound
returns c =
    λ i names marks.
    ran_bind _ (c.tv_is0-a_is0.ensures i names marks)
    (ran_bind _ (c.tv_is0-b_is0.ensures i names marks)
    (ran_bind _ (c.build_binary-y.ensures i i names marks)
    (c.undecided.ensures i names marks)))
