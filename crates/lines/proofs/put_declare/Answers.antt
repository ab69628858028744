-- `lines::put_declare` meets its contract: the pieces in their order. Assumes nothing.
use Rattle.engine.proofs.EmitLaws.{wrote_then}
use Rattle.lines.proofs.put_declare.Goals as goal

pub returns : goal.returns
returns c =
    let short = c.well_formed.0.0 in
    wrote_then (wrote_then
    (wrote_then (wrote_then c.put_bytes-name.ensures c.put_declared-space.ensures short)
    c.put_byte-sort.ensures short) (rw c.argument_at.ensures at c.put_sort-closing.ensures)
    short) c.put_bytes.ensures short
