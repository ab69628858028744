-- `cells::binary_cell` meets its contract: its calls are those of the model, one after the other. Assumes nothing.
use Prim.Native.Nat.{◌≤◌}
use native.Mathlib.Omega.{arith}
use Rattle.builder.proofs.Laws.{ran_bind}
use Rattle.logic.proofs.TableLaws.{length-tab}
use Rattle.smt.specs.Builder.{cell}
use Rattle.cells.proofs.binary_cell.Goals as goal

pub returns : goal.returns
unfolding cell
returns c =
    let number = c.number_at-n.ensures in
    λ slot low.
    let n = c.number_at-n.result in
    let small : n ≤ 64 = omega (arith, number, low) in
    let made = c.tv_binary.ensures small in
    rw (length-tab, ← number) (
      made.0,
      ran_bind _ (c.value-a.ensures small)
          (ran_bind _ (c.value-b.ensures small) (made.1 _ _)),
    )
