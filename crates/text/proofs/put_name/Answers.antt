-- `text::put_name` meets its contract: the letter, the index and the suffix, one after the other. Assumes nothing.
use Rattle.engine.proofs.EmitLaws.{wrote_then}
use Rattle.text.proofs.put_name.Goals as goal

pub returns : goal.returns
returns c =
    let short = c.well_formed.0.0 in
    wrote_then (wrote_then c.put_byte-number.ensures c.put_number-last.ensures short)
    c.put_byte.ensures short
