-- `engine::record3` meets its contract: two words are written, and two where they leave off. Assumes nothing.
use native.Mathlib.Omega.{arith}
use Rattle.engine.proofs.EmitLaws.{wrote_then}
use Rattle.engine.proofs.record3.Goals as goal

pub returns : goal.returns
returns c =
    wrote_then (rw c.head_word.ensures at c.push2-next.ensures) c.push2.ensures (omega arith)
