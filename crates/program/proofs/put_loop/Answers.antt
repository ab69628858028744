-- `program::put_loop` meets its contract: the loop that `order` names is written as its line; else nothing is. Assumes
-- nothing.
use mathlib.Core.Path.{◌≡◌, sym, ap, ◌∙◌}
use Prim.Native.Nat.{ℕ}
use native.Mathlib.Omega.{arith}
use lib.ListN.{length, replicate, length-replicate}
use lib.Seq.{length-take-le}
use Rattle.std.specs.Prelude.{Ok}
use Rattle.cell.specs.declared.Mode.TheVariants.{Ported}
use Rattle.engine.proofs.EmitLaws.{wrote_none}
use Rattle.requirement.specs.Verified.{read_in}
use Rattle.program.proofs.Loops.{loop_named, order-unnamed, refused-unnamed}
use Rattle.program.proofs.put_loop.Goals as goal

zeros : length {A = ℕ} (replicate 4096 0) ≡ 4096
zeros = length-replicate {A = ℕ} 4096 0

pub slice_bounds-slots-end : goal.slice_bounds-slots-end
slice_bounds-slots-end c =
    (loop_named Ported _ zeros (c.order.ensures Ported) (c.in-Ok-Looped.is ∙ ap Ok c.in-Ok-Looped.field-0-is)).1

pub slice_bounds-put_loop-end : goal.slice_bounds-put_loop-end
slice_bounds-put_loop-end c =
    sym (length-take-le _ _ (loop_named Ported _ zeros (c.order.ensures Ported) (c.in-Ok-Looped.is ∙ ap Ok c.in-Ok-Looped.field-0-is)).1)

pub returns-in-Err : goal.returns-in-Err
unfolding read_in
returns-in-Err c =
    rw (refused-unnamed Ported _ zeros (c.order.ensures Ported) c.in-Err.is)
    (wrote_none _ 0 (omega arith))

pub returns-in-Ok-Ordered : goal.returns-in-Ok-Ordered
unfolding read_in
returns-in-Ok-Ordered c =
    rw (order-unnamed Ported _ zeros (c.order.ensures Ported) (c.in-Ok-Ordered.is ∙ ap Ok c.in-Ok-Ordered.field-0-is))
    (wrote_none _ 0 (omega arith))

pub returns-in-Ok-Looped : goal.returns-in-Ok-Looped
unfolding read_in
returns-in-Ok-Looped c =
    rw (loop_named Ported _ zeros (c.order.ensures Ported) (c.in-Ok-Looped.is ∙ ap Ok c.in-Ok-Looped.field-0-is)).0
    c.put_loop.ensures
