-- `pieces::put_argument` meets its contract: a space, then the term. Assumes nothing.
use Rattle.engine.proofs.EmitLaws.{wrote_then}
use Rattle.pieces.proofs.put_argument.Goals as goal

pub returns : goal.returns
returns c =
    let short = c.well_formed.0.0 in
    wrote_then c.put_byte-next.ensures c.put_reference.ensures short
