-- `gates::tv_and` meets its contract: its calls are those of the model, one after the other. Assumes nothing.
use Rattle.builder.proofs.Laws.{ran_bind}
use Rattle.smt.specs.Builder.{tv_and}
use Rattle.gates.specs.Parts.{undecided, and_bound}
use Rattle.gates.proofs.tv_and.Goals as goal

pub returns : goal.returns
unfolding tv_and and_bound undecided
returns c =
    λ i j names marks.
    ran_bind _ (c.tv_bind-a.ensures i names marks)
    (ran_bind _ (c.tv_bind-b.ensures j names marks)
    (c.and_bound.ensures _ names marks))
