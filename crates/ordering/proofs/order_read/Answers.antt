-- `ordering::order_read` meets its contract: the flags and the words are the design's, and so is what they answer.
-- Assumes nothing.
use mathlib.Core.Path.{sym}
use Prim.Native.Nat.{ℕ}
use native.Mathlib.Omega.{arith}
use lib.ListN.{length-replicate}
use lib.Seq.{length-take-le}
use Rattle.cell.specs.declared.Mode.TheVariants.{Ported}
use Rattle.ordering.proofs.Ready.{zeros, table-low, zeros_taken, ready_orders}
use Rattle.ordering.proofs.order_read.Goals as goal

pub slice_bounds-flags-end : goal.slice_bounds-flags-end
slice_bounds-flags-end c = omega (arith, table-low (c.requires.0 Ported), zeros)

pub slice_bounds-nodes-end : goal.slice_bounds-nodes-end
slice_bounds-nodes-end c =
    sym (length-take-le _ _ (omega (arith, table-low (c.requires.0 Ported), zeros)))

pub slice_bounds-edges-end : goal.slice_bounds-edges-end
slice_bounds-edges-end c =
    let ready = c.requires.0 Ported in
    let all = c.fill-count.ensures Ported _ _ ready.is ready.tabled in
    omega (arith, all.few, c.fill-count.auto.edges, length-replicate {A = ℕ} 16384 0)

pub slice_bounds-order_by-end : goal.slice_bounds-order_by-end
slice_bounds-order_by-end c =
    let ready = c.requires.0 Ported in
    let all = c.fill-count.ensures Ported _ _ ready.is ready.tabled in
    sym (length-take-le _ _
    (omega (arith, all.few, c.fill-count.auto.edges, length-replicate {A = ℕ} 16384 0)))

pub returns : goal.returns
returns c =
    λ mode.
    let ready = c.requires.0 mode in
    ready_orders ready (c.fill-count.ensures mode _ _ ready.is ready.tabled)
    (c.flag_nodes.ensures mode _ _ ready.is ready.tabled (zeros_taken ready)) c.requires.1
    c.order_by.ensures
