-- `controls::invert_net` meets its contract: its calls are those of the model, one after the other. Assumes nothing.
use mathlib.Core.List.{[], ◌∷◌}
use Rattle.builder.proofs.Laws.{ran_bind, ran_ret}
use Rattle.smt.specs.Builder.{invert_net}
use Rattle.nets.proofs.Laws.{bit-lit}
use Rattle.controls.proofs.invert_net.Goals as goal

pub returns : goal.returns
unfolding invert_net
returns c =
    λ names marks.
    rw c.trits.ensures
    (ran_bind _
    (c.build_bitvec_lit-active.ensures (_ ∷ []) (rw c.active.ensures (bit-lit _)) names marks)
    (ran_ret _ (c.build_binary-y.ensures 1 1 names marks)))
