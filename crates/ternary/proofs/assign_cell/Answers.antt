-- `ternary::assign_cell` meets its contract: the words stored first are those of the value with its update; then its
-- calls are those of the model, one after the other. Assumes nothing.
use Prim.Native.Nat.{◌+◌, ◌≤◌}
use native.Mathlib.Omega.{arith}
use Rattle.builder.proofs.Laws.{ran_bind}
use Rattle.smt.specs.Builder.{cell}
use Rattle.ternary.proofs.assign_cell.Goals as goal

pub returns : goal.returns
unfolding cell
returns c =
    let number-3 = c.number_at-offset.ensures in
    let number-2 = c.number_at-u.ensures in
    let number = c.number_at-n.ensures in
    λ slot low within.
    let n = c.number_at-n.result in
    let small : n ≤ 64 = omega (arith, number, low) in
    let inside : c.number_at-offset.result + c.number_at-u.result ≤ n =
    omega (arith, number, number-2, number-3, within) in
    let updated = c.overwritten_nets.ensures.nets small inside in
    rw (← number, ← number-2, ← number-3) (
      c.args.width,
      ran_bind _ c.net_at-enable.ensures
          (ran_bind _ (rw updated at (c.value-updated.ensures small))
          (ran_bind _ (c.value-value.ensures small) (c.tv_mux.ensures 1 n n _ _))),
    )
