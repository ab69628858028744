-- `design_list::read_cells` meets its contract: after the cells the table holds the word of every slot, so what follows
-- is told by it what the definition is told by the cells. Assumes nothing.
use mathlib.Core.Path.{sym, ◌∙◌}
use Rattle.std.proofs.lemmas.Result.{err_from_is_err_and}
use Rattle.design_list.proofs.AnswersLaws.{cells-answer, cells-refused}
use Rattle.design_list.proofs.read_cells.Goals as goal

pub returns-in_err-cells : goal.returns-in_err-cells
returns-in_err-cells c =
    let p = err_from_is_err_and c.from_residual.result c.from_residual.ensures.1 in
    rw (p.1, p.2)
    (λ mode. cells-refused mode _ _ (sym c.in_err-cells.was ∙ c.cells_at.ensures.0), c.cells_at.ensures.1)

pub returns : goal.returns
returns c = (
  λ mode. c.read_cell_reps.ensures ∙
      rw c.cells_at.ensures.1
      (cells-answer mode _ _ c.args.table.now c.requires.1
      (sym c.in_ok-cells.was ∙ c.cells_at.ensures.0)),
  c.cells_at.ensures.1,
)
