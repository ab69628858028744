-- `gates::tv_or` meets its contract: its calls are those of the model, one after the other. Assumes nothing.
use Rattle.builder.proofs.Laws.{ran_bind}
use Rattle.smt.specs.Builder.{tv_or}
use Rattle.gates.specs.Parts.{undecided, or_bound}
use Rattle.gates.proofs.tv_or.Goals as goal

pub returns : goal.returns
unfolding tv_or or_bound undecided
returns c =
    λ i j names marks.
    ran_bind _ (c.tv_bind-a.ensures i names marks)
    (ran_bind _ (c.tv_bind-b.ensures j names marks)
    (c.or_bound.ensures _ names marks))
