-- `design::verify_large` meets its contract: the tables hold the names and the obligations of every accepted list.
-- Assumes nothing.
use Prim.Native.Nat.{ℕ, ◌*◌}
use native.Mathlib.Omega.{arith}
use lib.ListN.{length, length-replicate}
use Rattle.design.proofs.Verifies.{part_count, blank_of, table-low, large_room}
use Rattle.design.proofs.verify_large.Goals as goal

pub slice_bounds-names-end : goal.slice_bounds-names-end
slice_bounds-names-end c = omega (arith, table-low c.requires)

pub slice_bounds-verify_in-end : goal.slice_bounds-verify_in-end
slice_bounds-verify_in-end c =
    part_count (4 * length c.args.table.now) 16384 0 (omega (arith, table-low c.requires))

pub slice_bounds-marks-end : goal.slice_bounds-marks-end
slice_bounds-marks-end c = omega (arith, table-low c.requires)

pub slice_bounds-verify_in-end-2 : goal.slice_bounds-verify_in-end-2
slice_bounds-verify_in-end-2 c =
    part_count (length c.args.table.now) 4096 0 (table-low c.requires)

pub verify_in-requires : goal.verify_in-requires
verify_in-requires c =
    let low = table-low c.requires in
    let many = length-replicate {A = ℕ} 12288 0 in (
      c.requires,
      blank_of c.args.table.now 16384 4096 (omega arith) low,
      λ ready. let room = large_room ready in omega arith,
    )
