-- `names::tv_const` meets its contract: its calls are those of the model, one after the other. Assumes nothing.
use Rattle.builder.proofs.Laws.{ran_bind, ran_ret}
use Rattle.smt.specs.Builder.{tv_const}
use Rattle.names.proofs.tv_const.Goals as goal

pub returns : goal.returns
unfolding tv_const
returns c =
    rw c.trits.ensures
    (ran_bind _ c.bv_const-x.ensures (ran_ret _ c.bv_const-y.ensures))
