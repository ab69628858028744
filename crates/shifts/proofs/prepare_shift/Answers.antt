-- `shifts::prepare_shift` meets its contract: the words stored first are those of the extended value and amount, at
-- the width of the model. Assumes nothing.
use native.Mathlib.Omega.{arith}
use Rattle.operands.specs.Words.{ShiftFits}
use Rattle.shifts.proofs.Widths.{ran_prepared}
use Rattle.shifts.proofs.prepare_shift.Goals as goal

pub returns : goal.returns
returns c =
    let number-2 = c.number_at-stride.ensures in
    let number = c.number_at-m.ensures in
    let args = c.args in
    let m = c.number_at-m.result in
    let stride = c.number_at-stride.result in
    let width = c.shift_width-width.result in record {
      ran = λ small few.
          let wide : ShiftFits args.n m stride width =
          c.shift_width-width.ensures.wide small (omega (arith, number, few)) (omega (arith, number-2)) in
          let value = c.extended_nets.ensures.nets wide.value wide.narrow in
          let amount = c.extended_nets-2.ensures.nets wide.amount wide.narrow in
          rw (← number, ← number-2, ← c.number_at-amount.ensures)
          (ran_prepared _ args.words.now args.n args.at args.fields.now m _ stride args.signed width
          wide.exact
          (rw (value, amount) at (c.prepare_at.ensures.ran wide.narrow)));
      narrow = λ small few.
          let wide : ShiftFits args.n m stride width =
          c.shift_width-width.ensures.wide small (omega (arith, number, few)) (omega (arith, number-2)) in
          rw c.prepare_at.ensures.width wide.narrow;
    }
