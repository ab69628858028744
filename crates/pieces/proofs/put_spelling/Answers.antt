-- `pieces::put_spelling` meets its contract: the pieces in their order. Assumes nothing.
use Rattle.engine.proofs.EmitLaws.{wrote_then}
use Rattle.pieces.proofs.put_spelling.Goals as goal

pub returns : goal.returns
returns c =
    let short = c.well_formed.0.0 in
    wrote_then (wrote_then c.put_byte-index.ensures c.put_number-suffix.ensures short)
    c.put_suffix.ensures short
