-- `reads_table::flag_cells` meets its contract: along the cells (`FlagsLeft`), each turn flags one cell if it is
-- asserted, and after the last slot none is left. Assumes nothing.
use mathlib.Core.Path.{refl}
use Rattle.reads_table.proofs.Flags.{flags_start, flags_step, flags_end}
use Rattle.reads_table.proofs.flag_cells.Goals as goal

pub loop-at-init : goal.loop-at-init
loop-at-init c = λ mode d replacements pairs accepts is. flags_start mode _ accepts is _

pub loop-at-preserved : goal.loop-at-preserved
loop-at-preserved c =
    let next = c.in-Some.ensures in
    λ mode d replacements pairs accepts is.
    rw next.4
    (flags_step mode _ accepts is (c.loop-at.invariant mode d replacements pairs accepts is) next.0 next.2
    (rw next.1 at c.flag_cell.ensures) next.3 refl)

pub returns : goal.returns
returns c =
    λ mode d replacements pairs accepts is. flags_end is.size
    (c.loop-at.invariant mode d replacements pairs accepts is) c.in_default.ensures
