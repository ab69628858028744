-- `program::refuse` meets its contract: nothing in the line, and the refusal in the text. Assumes nothing.
use native.Mathlib.Omega.{arith}
use Rattle.engine.proofs.EmitLaws.{wrote_none}
use Rattle.program.proofs.refuse.Goals as goal

pub returns : goal.returns
returns c =
    record { line_wrote = wrote_none _ 0 (omega arith); text-wrote = c.put_refusal.ensures }
