-- `shifts::shifted` meets its contract: its calls are those of the model, one after the other. Assumes nothing.
use Prim.Native.Nat.{◌≤◌}
use native.Mathlib.Omega.{arith}
use Rattle.builder.proofs.Laws.{ran_bind}
use Rattle.shifts.proofs.shifted.Goals as goal

pub returns : goal.returns
returns c =
    let number = c.number_at-n.ensures in
    λ low few.
    let n = c.number_at-n.result in
    let small : n ≤ 64 = omega (arith, number, low) in
    let narrow = c.prepare_shift-p.ensures.narrow small few in
    rw (← number)
    (ran_bind _ (rw (← number) at (c.prepare_shift-p.ensures.ran small few))
    (c.tv_shift.ensures narrow _ _))
