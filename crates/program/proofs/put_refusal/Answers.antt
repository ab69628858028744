-- `program::put_refusal` meets its contract: the pieces of the line in their order. Assumes nothing.
use Rattle.engine.proofs.EmitLaws.{wrote_then}
use Rattle.program.proofs.put_refusal.Goals as goal

pub returns : goal.returns
returns c =
    let short = c.well_formed.0.0 in
    wrote_then (wrote_then
    (wrote_then (wrote_then c.put_bytes-number.ensures c.put_number-between.ensures short)
    c.put_bytes-place.ensures short) c.put_number-end.ensures short) c.put_byte.ensures short
