-- `asked::put_values` meets its contract: the pieces in their order. Assumes nothing.
use Rattle.engine.proofs.EmitLaws.{wrote_then}
use Rattle.asked.proofs.put_values.Goals as goal

pub returns : goal.returns
returns c =
    let short = c.well_formed.0.0 in
    wrote_then (wrote_then (wrote_then c.put_bytes-names.ensures c.put_pair-rest.ensures short)
    c.put_names-closing.ensures short) c.put_bytes.ensures short
