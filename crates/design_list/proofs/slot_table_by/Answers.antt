-- `design_list::slot_table_by` meets its contract: an accepted list leaves the words of its slots in the table, and
-- they are copied where they fit. Assumes nothing.
use borrow.Author.Tests.{le-ltb}
use mathlib.Core.Path.{sym, ◌∙◌}
use native.Mathlib.Omega.{arith}
use Rattle.cell.specs.declared.Mode.TheVariants.{Ported}
use Rattle.design_list.proofs.TableLaws.{tabled, table-low, table_filled}
use Rattle.design_list.proofs.slot_table_by.Goals as goal

pub overflow_add-total : goal.overflow_add-total
overflow_add-total c =
    omega (arith, table-low Ported _ (sym (c.read_into.ensures Ported).0 ∙ c.in_ok-extent.was))

pub returns : goal.returns
returns c mode =
    let same = sym (c.read_into.ensures mode).0 ∙ c.in_ok-extent.was in
    tabled _ (rw (same, le-ltb _ _ c.if-out-total.false))
    (c.copy.ensures
    (omega (
      arith,
      table-low Ported _ (sym (c.read_into.ensures Ported).0 ∙ c.in_ok-extent.was),
      c.read_into.auto,
    ))
    ∙ table_filled mode _ same c.args.table.now _ c.args.out.now (c.read_into.ensures mode).1
    c.requires c.if-out-total.false)
