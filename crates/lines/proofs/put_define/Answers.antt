-- `lines::put_define` meets its contract: the pieces in their order. Assumes nothing.
use Rattle.engine.proofs.EmitLaws.{wrote_then}
use Rattle.lines.proofs.put_define.Goals as goal

pub returns : goal.returns
returns c =
    let short = c.well_formed.0.0 in
    λ ready. wrote_then (wrote_then
    (wrote_then (wrote_then
    (wrote_then (wrote_then c.put_bytes-name.ensures c.put_numbered-parameters.ensures short)
    c.put_bytes-width.ensures short) c.put_sort-space.ensures short) c.put_byte-body.ensures short)
    (c.put_body-closing.ensures ready) short) c.put_bytes.ensures short
