-- `loop_line::put_slots` meets its contract. The loop's invariant: the names of the slots before `slot` are written.
-- Assumes nothing.
use native.Mathlib.Omega.{arith}
use Rattle.engine.proofs.EmitLaws.{wrote_none, wrote_then}
use Rattle.loop_line.proofs.Laws.{names_none, names_more}
use Rattle.loop_line.proofs.put_slots.Goals as goal

pub loop-slot-init : goal.loop-slot-init
loop-slot-init c = rw (names_none c.args.slots.now) (wrote_none _ _ (omega arith))

pub loop-slot-preserved : goal.loop-slot-preserved
loop-slot-preserved c =
    rw (names_more _ _ c.loop-slot-test.true)
    (wrote_then c.loop-slot.invariant c.put_slot-at.ensures c.well_formed.0.0)
