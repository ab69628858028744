-- `gates::mux_x` meets its contract: its calls are those of the model, one after the other. Assumes nothing.
use Rattle.builder.proofs.Laws.{ran_bind}
use Rattle.gates.specs.Parts.{mux_x}
use Rattle.gates.proofs.mux_x.Goals as goal

pub returns : goal.returns
unfolding mux_x
returns c =
    λ i names marks.
    ran_bind _ (c.build_binary-x_sx.ensures i i names marks)
    (ran_bind _ (c.build_binary-x_sx-2.ensures i i names marks)
    (ran_bind _ (c.build_binary-x_sx-3.ensures i i names marks)
    (ran_bind _ (c.build_bitvec_ite-x_s1.ensures i i names marks)
    (ran_bind _ (c.build_bitvec_ite-x_s0.ensures i i names marks)
    (c.mux_y.ensures i names marks)))))
