-- `vectors::tv_join` meets its contract: its calls are those of the model, one after the other. Assumes nothing.
use Rattle.builder.proofs.Laws.{ran_bind, ran_ret}
use Rattle.vectors.specs.Elements.{tv_join}
use Rattle.vectors.proofs.tv_join.Goals as goal

pub returns : goal.returns
unfolding tv_join
returns c =
    λ i j names marks.
    rw c.trits.ensures (ran_bind _ (c.build_concat-x.ensures i j names marks)
    (ran_ret _ (c.build_concat-y.ensures i j names marks)))
