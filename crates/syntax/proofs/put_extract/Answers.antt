-- `syntax::put_extract` meets its contract: the pieces in their order. Assumes nothing.
use Rattle.engine.proofs.EmitLaws.{wrote_then}
use Rattle.syntax.proofs.put_extract.Goals as goal

pub returns : goal.returns
returns c =
    let short = c.well_formed.0.0 in
    wrote_then (wrote_then
    (wrote_then (wrote_then c.put_bytes-first.ensures c.put_number-space.ensures short)
    c.put_byte-second.ensures short) c.put_number-closing.ensures short) c.put_byte.ensures short
