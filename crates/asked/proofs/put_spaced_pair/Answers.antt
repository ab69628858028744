-- `asked::put_spaced_pair` meets its contract: a space, then the names. Assumes nothing.
use Rattle.engine.proofs.EmitLaws.{wrote_then}
use Rattle.asked.proofs.put_spaced_pair.Goals as goal

pub returns : goal.returns
returns c =
    let short = c.well_formed.0.0 in
    wrote_then c.put_byte-names.ensures c.put_pair.ensures short
