-- `pieces::put_application` meets its contract: the pieces in their order. Assumes nothing.
use Rattle.engine.proofs.EmitLaws.{wrote_then}
use Rattle.pieces.proofs.put_application.Goals as goal

pub returns : goal.returns
returns c =
    let short = c.well_formed.0.0 in
    wrote_then (wrote_then (wrote_then c.put_byte-name.ensures c.put_operation-arguments.ensures short)
    c.put_arguments-closing.ensures short) c.put_byte.ensures short
