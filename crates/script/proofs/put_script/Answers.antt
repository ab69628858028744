-- `script::put_script` meets its contract: the header, the lines and the ending. Assumes nothing.
use Rattle.engine.proofs.EmitLaws.{wrote_then}
use Rattle.script.specs.Text.{script}
use Rattle.script.proofs.put_script.Goals as goal

pub returns : goal.returns
unfolding script
returns c =
    let short = c.well_formed.0.0 in
    wrote_then (wrote_then c.put_bytes-lines.ensures c.put_records-ending.ensures short)
    c.put_ending.ensures short
