-- `reads_table::flag_cell` meets its contract: the flag is put just where the cell is asserted. Assumes nothing.
use mathlib.Core.Path.{sym, ◌∙◌}
use Rattle.reads_table.specs.Nodes.{flag_all}
use Rattle.reads_table.proofs.flag_cell.Goals as goal

pub returns-then-is_asserted : goal.returns-then-is_asserted
unfolding flag_all
returns-then-is_asserted c =
    rw (sym c.is_asserted.ensures ∙ c.if-is_asserted.true) c.put.ensures

pub returns-else-is_asserted : goal.returns-else-is_asserted
unfolding flag_all
returns-else-is_asserted c = rw (sym c.is_asserted.ensures ∙ c.if-is_asserted.false)
