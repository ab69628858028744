-- `cells::io_buf_cell` meets its contract: it is one call, of the cell's own outputs. Assumes nothing.
use Rattle.smt.specs.Builder.{cell}
use Rattle.nets.specs.Reads.{reader}
use Rattle.cells.proofs.io_buf_cell.Goals as goal

pub returns : goal.returns
unfolding cell reader
returns c =
    λ n small low.
    (c.args.width, c.output_value.ensures small low)
