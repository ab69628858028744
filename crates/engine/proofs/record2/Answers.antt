-- `engine::record2` meets its contract: the arguments are written where the head leaves off. Assumes nothing.
use native.Mathlib.Omega.{arith}
use Rattle.engine.proofs.EmitLaws.{wrote_then}
use Rattle.engine.proofs.record2.Goals as goal

pub returns : goal.returns
returns c =
    wrote_then (rw c.head_word.ensures at c.push-next.ensures) c.push2.ensures
    (omega arith)
