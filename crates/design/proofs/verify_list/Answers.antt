-- `design::verify_list` meets its contract: what `slot_table` refuses is refused, and an accepted list is verified with
-- its table. Assumes nothing.
use mathlib.Core.Path.{◌∙◌}
use native.Mathlib.Omega.{arith}
use Prim.Native.Nat.{ℕ}
use lib.ListN.{length-replicate}
use Rattle.std.proofs.lemmas.Result.{err_from_is_err_and}
use Rattle.cell.specs.declared.Mode.TheVariants.{Ported}
use Rattle.design.proofs.Verifies.{taken_count, slots-low, ready_of, refused_of}
use Rattle.design.proofs.verify_list.Goals as goal

pub overflow_add-slots : goal.overflow_add-slots
overflow_add-slots c =
    omega (
      arith,
      slots-low Ported _ (length-replicate {A = ℕ} 4096 0) (c.slot_table.ensures Ported) c.in_ok-x.was,
    )

pub slice_bounds-table-end : goal.slice_bounds-table-end
slice_bounds-table-end c =
    omega (
      arith,
      slots-low Ported _ (length-replicate {A = ℕ} 4096 0) (c.slot_table.ensures Ported) c.in_ok-x.was,
      c.slot_table.auto.out ∙ length-replicate {A = ℕ} 4096 0,
    )

pub slice_bounds-verify_read-end : goal.slice_bounds-verify_read-end
slice_bounds-verify_read-end c =
    taken_count _ _
    (omega (
      arith,
      slots-low Ported _ (length-replicate {A = ℕ} 4096 0) (c.slot_table.ensures Ported) c.in_ok-x.was,
      c.slot_table.auto.out ∙ length-replicate {A = ℕ} 4096 0,
    ))

pub verify_read-requires : goal.verify_read-requires
verify_read-requires c =
    ready_of _ _ (length-replicate {A = ℕ} 4096 0) (c.slot_table.ensures _) c.in_ok-x.was
    (c.slot_table.auto.out ∙ length-replicate {A = ℕ} 4096 0)

pub returns-in_err-x : goal.returns-in_err-x
returns-in_err-x c =
    let p = err_from_is_err_and c.from_residual.result c.from_residual.ensures.1 in
    rw (p.1, p.2)
    (refused_of c.args.mode _ (length-replicate {A = ℕ} 4096 0) (c.slot_table.ensures _)
    c.args.calls.now
    c.args.recorded.now c.in_err-x.was)
