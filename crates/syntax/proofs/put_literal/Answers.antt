-- `syntax::put_literal` meets its contract: #b, then the bits. Assumes nothing.
use Rattle.engine.proofs.EmitLaws.{wrote_then}
use Rattle.syntax.proofs.put_literal.Goals as goal

pub returns : goal.returns
returns c =
    wrote_then c.put_bytes-digits.ensures c.put_bits.ensures c.well_formed.0.0
