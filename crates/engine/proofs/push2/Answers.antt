-- `engine::push2` meets its contract: the second word is written where the first leaves off. Assumes nothing.
use native.Mathlib.Omega.{arith}
use Rattle.engine.proofs.EmitLaws.{wrote_then}
use Rattle.engine.proofs.push2.Goals as goal

pub returns : goal.returns
returns c =
    wrote_then c.push-next.ensures c.push.ensures (omega arith)
