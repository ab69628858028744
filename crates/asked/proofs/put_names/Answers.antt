-- `asked::put_names` meets its contract. The loop's invariant: what is written and what the marks from `slot` on ask
-- for are all names. Assumes nothing.
use mathlib.Core.Path.{refl, ◌∙◌}
use mathlib.Core.List.{[]}
use native.Mathlib.Omega.{arith}
use Rattle.engine.proofs.EmitLaws.{wrote_none, wrote_then}
use Rattle.asked.proofs.Ending.{names-start, names-next, names-end}
use Rattle.asked.proofs.put_names.Goals as goal

pub loop-slot-init : goal.loop-slot-init
loop-slot-init c = ([], refl, names-start _ _, wrote_none _ _ (omega arith))

pub loop-slot-preserved : goal.loop-slot-preserved
loop-slot-preserved c =
    let inv = c.loop-slot.invariant in (
      _,
      c.put_mark_names-at.auto.text ∙ inv.1,
      names-next inv.2 (omega arith),
      wrote_then inv.3 c.put_mark_names-at.ensures c.well_formed.0.0,
    )

pub returns : goal.returns
returns c =
    let inv = c.loop-slot.invariant in
    rw (names-end inv.2 (omega arith)) at inv.3
