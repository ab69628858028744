-- `cells::aig_cell` meets its contract: its calls are those of the model, one after the other. Assumes nothing.
use Rattle.builder.proofs.Laws.{ran_bind}
use Rattle.smt.specs.Builder.{cell}
use Rattle.cells.proofs.aig_cell.Goals as goal

pub returns : goal.returns
unfolding cell
returns c =
    λ slot width. (
      1,
      ran_bind _ c.control_at-a.ensures
          (ran_bind _ c.control_at-b.ensures (c.tv_and.ensures 1 1 _ _)),
    )
