-- `gates::mux_bound` meets its contract: its calls are those of the model, one after the other. Assumes nothing.
use Rattle.builder.proofs.Laws.{ran_bind}
use Rattle.gates.specs.Parts.{mux_bound}
use Rattle.gates.proofs.mux_bound.Goals as goal

pub returns : goal.returns
unfolding mux_bound
returns c =
    λ i names marks.
    ran_bind _ (c.tv_is0-bv_is0.ensures 1 names marks)
    (ran_bind _ (c.tv_is1-bv_is1.ensures 1 names marks)
    (ran_bind _ (c.bv_to_bool-s_is0.ensures 1 names marks)
    (ran_bind _ (c.bv_to_bool-s_is1.ensures 1 names marks)
    (c.mux_x.ensures i names marks))))
