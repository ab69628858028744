-- `gates::tv_xor` meets its contract: its calls are those of the model, one after the other. Assumes nothing.
use Rattle.builder.proofs.Laws.{ran_bind, ran_ret}
use Rattle.smt.specs.Builder.{tv_xor}
use Rattle.gates.proofs.tv_xor.Goals as goal

pub returns : goal.returns
unfolding tv_xor
returns c =
    λ i j names marks.
    ran_bind _ (c.build_binary-y.ensures i j names marks)
    (ran_ret _ (c.build_binary-x.ensures i j names marks))
