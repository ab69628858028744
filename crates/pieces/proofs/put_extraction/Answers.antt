-- `pieces::put_extraction` meets its contract: the pieces in their order. Assumes nothing.
use Rattle.engine.proofs.EmitLaws.{wrote_then}
use Rattle.pieces.proofs.Laws.{spaced-one}
use Rattle.pieces.proofs.put_extraction.Goals as goal

pub returns : goal.returns
returns c =
    let short = c.well_formed.0.0 in
    let operation = rw (c.argument_at-low.ensures, c.argument_at-high.ensures) at c.put_extract-argument.ensures in
    let argument = rw c.argument_at.ensures at c.put_argument-closing.ensures in
    rw spaced-one
    (wrote_then (wrote_then (wrote_then c.put_byte-operation.ensures operation short) argument short)
    c.put_byte.ensures short)
