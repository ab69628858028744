-- `gates::tv_mux` meets its contract: its calls are those of the model, one after the other. Assumes nothing.
use Rattle.builder.proofs.Laws.{ran_bind}
use Rattle.smt.specs.Builder.{tv_mux}
use Rattle.gates.specs.Parts.{mux_y, mux_x, mux_bound}
use Rattle.gates.proofs.tv_mux.Goals as goal

pub returns : goal.returns
unfolding tv_mux mux_bound mux_x mux_y
returns c =
    λ h i j names marks.
    ran_bind _ (c.tv_bind-s.ensures h names marks)
    (ran_bind _ (c.tv_bind-a.ensures i names marks)
    (ran_bind _ (c.tv_bind-b.ensures j names marks)
    (c.mux_bound.ensures _ names marks)))
