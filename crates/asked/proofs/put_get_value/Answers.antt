-- `asked::put_get_value` meets its contract: the first slot asked for names the letter. Assumes nothing.
use borrow.Author.Tests.{eq-eqb, ne_eqb}
use native.Mathlib.Omega.{arith}
use Rattle.engine.specs.Call as call
use Rattle.engine.proofs.EmitLaws.{wrote_none}
use Rattle.asked.proofs.Ending.{value_none, value-some}
use Rattle.asked.proofs.put_get_value.Goals as goal

pub returns-then-recorded-slot-eq1 : goal.returns-then-recorded-slot-eq1
returns-then-recorded-slot-eq1 c =
    rw (value-some call.n c.first_asked-slot.ensures c.if-slot-recorded.true (rw (eq-eqb _ 1 c.if-recorded-slot-eq1.true)))
    c.put_values.ensures

pub returns-then-slot-recorded : goal.returns-then-slot-recorded
returns-then-slot-recorded c =
    let past = c.first_asked-slot.ensures.asks c.if-slot-recorded.true c.if-recorded-slot-eq1.false in
    rw (value-some call.p c.first_asked-slot.ensures c.if-slot-recorded.true
    (rw (ne_eqb _ 1 c.if-recorded-slot-eq1.false, eq-eqb _ 2 past))) c.put_values-then-slot-recorded.ensures

pub returns : goal.returns
returns c =
    rw (value_none c.first_asked-slot.ensures c.if-slot-recorded.false) (wrote_none _ _ (omega arith))
