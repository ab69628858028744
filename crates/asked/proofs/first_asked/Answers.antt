-- `asked::first_asked` meets its contract. The loop's invariant: the marks before `slot` ask for nothing.
-- Assumes nothing.
use mathlib.Core.Path.{◌∙◌}
use Rattle.asked.proofs.Ending.{asked-next}
use Rattle.asked.proofs.first_asked.Goals as goal

pub loop-slot-preserved : goal.loop-slot-preserved
loop-slot-preserved c =
    c.loop-slot.invariant ∙ asked-next _ _ c.loop-slot-test.true c.if-mark-eq1.false c.if-mark-eq2.false
