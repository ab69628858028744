-- `cells::unary_cell` meets its contract: its calls are those of the model, one after the other. Assumes nothing.
use Prim.Native.Nat.{◌≤◌}
use native.Mathlib.Omega.{arith}
use Rattle.builder.proofs.Laws.{ran_bind}
use Rattle.smt.specs.Builder.{cell}
use Rattle.cells.proofs.unary_cell.Goals as goal

pub returns-in-Buf : goal.returns-in-Buf
unfolding cell
returns-in-Buf c =
    let number = c.number_at-n.ensures in
    λ slot width low.
    let n = c.number_at-n.result in
    let small : n ≤ 64 = omega (arith, number, low) in
    rw (c.in-Buf.is, ← number) (n, c.value-a.ensures small)

pub returns-in-Not : goal.returns-in-Not
unfolding cell
returns-in-Not c =
    let number = c.number_at-n.ensures in
    λ slot width low.
    let n = c.number_at-n.result in
    let small : n ≤ 64 = omega (arith, number, low) in
    rw (c.in-Not.is, ← number)
    (n, ran_bind _ (c.value-a.ensures small) (c.tv_not.ensures n _ _))
