-- `asked::put_pair` meets its contract: the x name, then the y name. Assumes nothing.
use Rattle.engine.proofs.EmitLaws.{wrote_then}
use Rattle.asked.proofs.put_pair.Goals as goal

pub returns : goal.returns
returns c =
    let short = c.well_formed.0.0 in
    wrote_then c.put_name-space.ensures c.put_second.ensures short
