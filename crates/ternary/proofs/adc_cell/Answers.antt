-- `ternary::adc_cell` meets its contract: its calls are those of the model, one after the other. Assumes nothing.
use mathlib.Core.Path.{◌≡◌}
use Prim.Native.Nat.{◌+◌, ◌<◌, ◌≤◌}
use native.Mathlib.Omega.{arith}
use Rattle.builder.proofs.Laws.{ran_bind}
use Rattle.smt.specs.Builder.{cell, adc_cell}
use Rattle.logic.specs.Table.{tab}
use Rattle.ternary.proofs.Adc.{adc-some}
use Rattle.ternary.proofs.adc_cell.Goals as goal

pub returns-then-n-eq0 : goal.returns-then-n-eq0
unfolding cell adc_cell tab
returns-then-n-eq0 c =
    λ slot width low.
    let none : c.number_at-n.result ≡ 0 = c.if-n-eq0.true in
    rw (← c.number_at-n.ensures, none) (1, c.net_at.ensures)

pub returns : goal.returns
unfolding cell
returns c =
    let number = c.number_at-n.ensures in
    λ slot width low.
    let n = c.number_at-n.result in
    let some : 0 < n = omega (arith, c.if-n-eq0.false) in
    let small : n ≤ 63 = omega (arith, number, low) in
    rw (← number, adc-some _ n _ _ _ some) (
      n + 1,
      ran_bind _ (c.value-a.ensures (omega (arith, small)))
          (ran_bind _ (c.value-b.ensures (omega (arith, small)))
          (ran_bind _ c.net_at-carry.ensures (c.tv_adc.ensures small n n _ _))),
    )
