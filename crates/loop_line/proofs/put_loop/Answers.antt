-- `loop_line::put_loop` meets its contract: the pieces of the line in their order. Assumes nothing.
use Rattle.engine.proofs.EmitLaws.{wrote_then}
use Rattle.loop_line.proofs.put_loop.Goals as goal

pub returns : goal.returns
returns c =
    let short = c.well_formed.0.0 in
    wrote_then (wrote_then c.put_bytes-names.ensures c.put_slots-end.ensures short) c.put_byte.ensures
    short
