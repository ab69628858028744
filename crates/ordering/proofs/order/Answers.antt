-- `ordering::order` meets its contract: what `slot_table` refuses is refused, then a slice too short, and an accepted
-- list is ordered with its table. Assumes nothing.
use mathlib.Core.Path.{sym, ◌∙◌}
use native.Mathlib.Omega.{arith}
use lib.Seq.{length-take-le}
use Rattle.std.proofs.lemmas.Result.{err_from_is_err_and}
use Rattle.cell.specs.declared.Mode.TheVariants.{Ported}
use Rattle.ordering.proofs.Ready.{zeros}
use Rattle.ordering.proofs.Listed.{taken_within, slots-low, ready_of, refused_orders}
use Rattle.ordering.proofs.order.Goals as goal

pub overflow_add-total : goal.overflow_add-total
overflow_add-total c =
    omega (arith, slots-low Ported _ zeros (c.slot_table.ensures Ported) c.in_ok-x.was)

pub slice_bounds-table-end : goal.slice_bounds-table-end
slice_bounds-table-end c =
    omega (
      arith,
      slots-low Ported _ zeros (c.slot_table.ensures Ported) c.in_ok-x.was,
      c.slot_table.auto.out ∙ zeros,
    )

pub slice_bounds-order_read-end : goal.slice_bounds-order_read-end
slice_bounds-order_read-end c =
    sym (length-take-le _ _
    (omega (
      arith,
      slots-low Ported _ zeros (c.slot_table.ensures Ported) c.in_ok-x.was,
      c.slot_table.auto.out ∙ zeros,
    )))

pub order_read-requires : goal.order_read-requires
order_read-requires c = (
  λ mode. ready_of mode _ zeros (c.slot_table.ensures mode) c.in_ok-x.was,
  taken_within _ _ _ c.if-slots-total.false,
)

pub returns-in_err-x : goal.returns-in_err-x
returns-in_err-x c =
    let p = err_from_is_err_and c.from_residual.result c.from_residual.ensures.1 in
    rw (p.1, p.2) (λ mode. refused_orders mode _ zeros (c.slot_table.ensures mode) _ c.in_err-x.was)
