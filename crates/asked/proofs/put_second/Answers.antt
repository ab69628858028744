-- `asked::put_second` meets its contract: a space, then the name. Assumes nothing.
use Rattle.engine.proofs.EmitLaws.{wrote_then}
use Rattle.asked.proofs.put_second.Goals as goal

pub returns : goal.returns
returns c =
    let short = c.well_formed.0.0 in
    wrote_then c.put_byte-name.ensures c.put_name.ensures short
