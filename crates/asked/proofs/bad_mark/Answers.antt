-- `asked::bad_mark` meets its contract. The loop's invariant: the first mark that does not stand is the first from
-- `slot` on. Assumes nothing.
use native.Mathlib.Omega.{arith}
use mathlib.Core.Path.{sym, ◌∙◌}
use Rattle.asked.proofs.Marks.{by_bad, by_fine, by_done}
use Rattle.asked.proofs.bad_mark.Goals as goal

pub returns-then-not-mark_stands : goal.returns-then-not-mark_stands
returns-then-not-mark_stands c =
    sym (c.loop-slot.invariant
    ∙ by_bad _ _ _ (omega arith) (sym c.mark_stands.ensures ∙ c.if-not-mark_stands.true))

pub loop-slot-preserved : goal.loop-slot-preserved
loop-slot-preserved c =
    c.loop-slot.invariant
    ∙ by_fine _ _ _ (omega arith) (sym c.mark_stands.ensures ∙ c.if-not-mark_stands.false)

pub returns : goal.returns
returns c = sym (c.loop-slot.invariant ∙ by_done _ _ _ (omega arith))
