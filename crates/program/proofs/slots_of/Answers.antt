-- `program::slots_of` meets its contract: what the list reader answers of an accepted list. Assumes nothing.
use mathlib.Core.Path.{sym, ◌∙◌}
use native.Mathlib.Omega.{arith}
use Rattle.cell.specs.declared.Mode.TheVariants.{Ported}
use Rattle.design_list.specs.Read.{read}
use Rattle.requirement.specs.Verified.{read_in}
use Rattle.design_list.proofs.TableLaws.{table-low}
use Rattle.program.proofs.Laws.{slots-refused, slots-accepted}
use Rattle.program.proofs.slots_of.Goals as goal

pub overflow_add-result : goal.overflow_add-result
overflow_add-result c =
    omega (arith, table-low Ported _ (sym (c.read_design.ensures Ported).same ∙ c.in-Ok.is))

pub returns-in-Err : goal.returns-in-Err
unfolding read_in
returns-in-Err c =
    sym (slots-refused (read Ported c.args.list.now)
    (sym (c.read_design.ensures Ported).same ∙ c.in-Err.is))

pub returns-in-Ok : goal.returns-in-Ok
unfolding read_in
returns-in-Ok c =
    sym (slots-accepted (read Ported c.args.list.now)
    (sym (c.read_design.ensures Ported).same ∙ c.in-Ok.is))
