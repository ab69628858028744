-- `pieces::put_arguments` meets its contract. The loop's invariant: the arguments before `i` are written, and the place
-- is the one after them. Assumes nothing.
use mathlib.Core.Path.{refl, ◌∙◌}
use native.Mathlib.Omega.{arith}
use Rattle.engine.proofs.EmitLaws.{wrote_none, wrote_then}
use Rattle.pieces.proofs.Laws.{spaced-none, spaced-more}
use Rattle.pieces.proofs.put_arguments.Goals as goal

pub loop-i-init : goal.loop-i-init
loop-i-init c = (refl, rw spaced-none (wrote_none _ _ (omega arith)))

pub loop-i-preserved : goal.loop-i-preserved
loop-i-preserved c =
    let inv = c.loop-i.invariant in
    let argument = rw c.argument_at.ensures at c.put_argument-at.ensures in (
      c.put_argument-at.auto.text ∙ inv.0,
      rw spaced-more (wrote_then inv.1 argument c.well_formed.0.0),
    )
