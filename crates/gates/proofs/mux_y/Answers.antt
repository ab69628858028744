-- `gates::mux_y` meets its contract: its calls are those of the model, one after the other. Assumes nothing.
use Rattle.builder.proofs.Laws.{ran_bind, ran_ret}
use Rattle.gates.specs.Parts.{mux_y}
use Rattle.gates.proofs.mux_y.Goals as goal

pub returns : goal.returns
unfolding mux_y
returns c =
    λ i names marks.
    rw c.trits.ensures (ran_bind _ (c.build_binary-y_sx.ensures i i names marks)
    (ran_bind _ (c.build_bitvec_ite-y_s1.ensures i i names marks)
    (ran_ret _ (c.build_bitvec_ite-y_s0.ensures i i names marks))))
