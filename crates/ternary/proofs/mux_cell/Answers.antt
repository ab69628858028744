-- `ternary::mux_cell` meets its contract: its calls are those of the model, one after the other. Assumes nothing.
use Prim.Native.Nat.{◌≤◌}
use native.Mathlib.Omega.{arith}
use Rattle.builder.proofs.Laws.{ran_bind}
use Rattle.smt.specs.Builder.{cell}
use Rattle.ternary.proofs.mux_cell.Goals as goal

pub returns : goal.returns
unfolding cell
returns c =
    let number = c.number_at-n.ensures in
    λ slot low.
    let n = c.number_at-n.result in
    let small : n ≤ 64 = omega (arith, number, low) in
    rw (← number) (
      c.args.width,
      ran_bind _ c.net_at-s.ensures
          (ran_bind _ (c.value-a.ensures small)
          (ran_bind _ (c.value-b.ensures small) (c.tv_mux.ensures 1 n n _ _))),
    )
