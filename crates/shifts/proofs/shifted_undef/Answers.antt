-- `shifts::shifted_undef` meets its contract: the words stored first are those of the value and a net X; then its
-- calls are those of the model, one after the other. Assumes nothing.
use Prim.Native.Nat.{◌+◌, ◌≤◌}
use native.Mathlib.Omega.{arith}
use Rattle.builder.proofs.Laws.{ran_bind}
use Rattle.shifts.proofs.shifted_undef.Goals as goal

pub returns : goal.returns
returns c =
    let number = c.number_at-n.ensures in
    λ low few.
    let n = c.number_at-n.result in
    let small : n + 1 ≤ 64 = omega (arith, number, low) in
    let undef = c.concat_undef.ensures.nets small in
    let narrow = c.prepare_shift-p.ensures.narrow small few in
    rw (← number)
    (ran_bind _ (rw (undef, ← number) at (c.prepare_shift-p.ensures.ran small few))
    (c.tv_shift.ensures narrow _ _))
