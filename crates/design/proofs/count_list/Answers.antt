-- `design::count_list` meets its contract: what `slot_table` refuses is refused, and an accepted list is told by a dry
-- run. Assumes nothing.
use mathlib.Core.Path.{◌≡◌, ap, ◌∙◌}
use Rattle.std.specs.Prelude.{Ok}
use native.Mathlib.Omega.{arith}
use Prim.Native.Nat.{ℕ}
use lib.ListN.{length, replicate, length-replicate}
use Rattle.std.proofs.lemmas.Result.{err_from_is_err_and}
use Rattle.cell.specs.declared.Mode.TheVariants.{Ported}
use Rattle.design.proofs.Verifies.{taken_count, slots-low, ready_of, refused-unroomed, told-unroomed}
use Rattle.design.proofs.count_list.Goals as goal

zeros : length {A = ℕ} (replicate 4096 0) ≡ 4096
zeros = length-replicate {A = ℕ} 4096 0

pub overflow_add-slots : goal.overflow_add-slots
overflow_add-slots c =
    omega (arith, slots-low Ported _ zeros (c.slot_table.ensures Ported) c.in_ok-x.was)

pub slice_bounds-table-end : goal.slice_bounds-table-end
slice_bounds-table-end c =
    omega (
      arith,
      slots-low Ported _ zeros (c.slot_table.ensures Ported) c.in_ok-x.was,
      c.slot_table.auto.out ∙ zeros,
    )

pub slice_bounds-count_read-end : goal.slice_bounds-count_read-end
slice_bounds-count_read-end c =
    taken_count _ _
    (omega (
      arith,
      slots-low Ported _ zeros (c.slot_table.ensures Ported) c.in_ok-x.was,
      c.slot_table.auto.out ∙ zeros,
    ))

pub count_read-requires : goal.count_read-requires
count_read-requires c =
    ready_of _ _ zeros (c.slot_table.ensures _) c.in_ok-x.was (c.slot_table.auto.out ∙ zeros)

pub returns-in_err-x : goal.returns-in_err-x
returns-in_err-x c =
    let p = err_from_is_err_and c.from_residual.result c.from_residual.ensures.1 in
    rw (p.1, p.2) (refused-unroomed c.args.mode _ zeros (c.slot_table.ensures _) c.in_err-x.was)

pub returns : goal.returns
returns c =
    let ready =
    ready_of _ _ zeros (c.slot_table.ensures _) c.in_ok-x.was (c.slot_table.auto.out ∙ zeros) in
    ap Ok c.told.ensures ∙ told-unroomed ready (c.count_read.ensures ready)
