-- `reads_table::fill_cells` meets its contract: along the cells (`ReadsLeft`), each turn stores the reads of one cell
-- if it is asserted, and after the last slot none is left. Assumes nothing.
use mathlib.Core.Path.{refl}
use Rattle.reads_table.proofs.Filling.{reads-start, reads-step, reads_end}
use Rattle.reads_table.proofs.fill_cells.Goals as goal

pub loop-at-init : goal.loop-at-init
loop-at-init c = λ mode d replacements pairs accepts is. reads-start mode _ accepts is _

pub loop-at-preserved : goal.loop-at-preserved
loop-at-preserved c =
    let next = c.in-Some.ensures in
    λ mode d replacements pairs accepts is.
    rw next.4
    (reads-step mode _ accepts is (c.loop-at.invariant mode d replacements pairs accepts is) next.0 next.2
    (rw next.1 at c.cell_edges-count.ensures) next.3 refl)

pub returns : goal.returns
returns c =
    λ mode d replacements pairs accepts is. reads_end is.size
    (c.loop-at.invariant mode d replacements pairs accepts is) c.in_default.ensures
