-- `syntax::put_bits` meets its contract: the bits of the half, then the lowest bit. The width falls. Assumes nothing.
use native.Mathlib.Omega.{arith}
use Rattle.engine.proofs.EmitLaws.{wrote_none, wrote_then}
use Rattle.syntax.proofs.Laws.{bits_none, bits-more}
use Rattle.syntax.proofs.+put_bits.Goals as goal

pub returns-then-width-eq0 : goal.returns-then-width-eq0
returns-then-width-eq0 t c = rw (bits_none _ _ c.if-width-eq0.true) (wrote_none _ _ (omega arith))

pub returns : goal.returns
returns t c =
    rw (bits-more _ _ c.if-width-eq0.false)
    (wrote_then c.put_bits-last.ensures c.put_byte.ensures c.well_formed.0.0)
