-- `loop_line::put_slot` meets its contract: a space and the letter, then the number. Assumes nothing.
use Rattle.engine.proofs.EmitLaws.{wrote_then}
use Rattle.loop_line.proofs.put_slot.Goals as goal

pub returns : goal.returns
returns c =
    wrote_then c.put_bytes-number.ensures c.put_number.ensures c.well_formed.0.0
