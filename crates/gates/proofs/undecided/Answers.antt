-- `gates::undecided` meets its contract: its calls are those of the model, one after the other. Assumes nothing.
use Rattle.builder.proofs.Laws.{ran_bind, ran_ret}
use Rattle.gates.specs.Parts.{undecided}
use Rattle.gates.proofs.undecided.Goals as goal

pub returns : goal.returns
unfolding undecided
returns c =
    λ i names marks.
    ran_bind _ (c.build_binary-some_x.ensures i i names marks)
    (ran_bind _ (c.build_binary-either.ensures i i names marks)
    (ran_bind _ (c.build_bvnot-neither.ensures i names marks)
    (ran_ret _ (c.build_binary-x.ensures i i names marks))))
