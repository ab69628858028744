-- `virginalmimas::vm_read` meets its contract: the answer is packed as the definition says; an accepted list has at
-- most 4,096 slots. Assumes nothing.
use mathlib.Core.Path.{sym, ◌∙◌}
use native.Mathlib.Omega.{arith}
use Rattle.cell.specs.declared.Mode.TheVariants.{Ported}
use Rattle.design_list.proofs.TableLaws.{table-low}
use Rattle.virginalmimas.proofs.vm_read.Goals as goal

pub overflow_add-result : goal.overflow_add-result
overflow_add-result c =
    let answered = (c.read_design.ensures Ported).same in
    omega (arith, table-low Ported _ (sym answered ∙ c.in-Ok.is))

pub returns-in-Ok : goal.returns-in-Ok
returns-in-Ok c =
    let answered = (c.read_design.ensures Ported).same in
    let low = table-low Ported _ (sym answered ∙ c.in-Ok.is) in
    rw (← answered, c.in-Ok.is) (omega (arith, low))
