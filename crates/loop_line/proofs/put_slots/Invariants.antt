-- `loop_line::put_slots` meets its contract. The loop's invariant: the names of the slots before `slot` are written.
-- Assumes nothing.
use lib.ListN.{take}
use Rattle.engine.specs.Emit.{Wrote}
use Rattle.loop_line.specs.Line.{slot_names}
use Rattle.loop_line.proofs.put_slots.Given as goal

abbrev pub invariant-loop-slot : goal.invariant-loop-slot
invariant-loop-slot l = Wrote l.initial.line l.start (slot_names (take l.slot-index l.slots)) l.line l.at
