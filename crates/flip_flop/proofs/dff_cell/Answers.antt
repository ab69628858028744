-- `flip_flop::dff_cell` meets its contract: its calls are those of the model, one after the other. Assumes nothing.
use mathlib.Core.Path.{ap, ◌∙◌}
use Prim.Native.Nat.{◌≤◌}
use native.Mathlib.Omega.{arith}
use Rattle.logic.specs.Word.{payload_of}
use Rattle.builder.proofs.Laws.{ran_bind}
use Rattle.flip_flop.specs.Parts.{clocked}
use Rattle.smt.specs.Builder.{cell, dff_cell}
use Rattle.flip_flop.proofs.dff_cell.Goals as goal

pub returns : goal.returns
unfolding cell dff_cell clocked
returns c =
    λ small narrow low.
    let args = c.args in
    let number = c.payload-n.ensures ∙ ap payload_of c.word_at.ensures in
    let few : c.payload-n.result ≤ 64 = omega (arith, number, small) in (
      args.width,
      ran_bind _ (rw number at (c.value-data.ensures few))
          (ran_bind _ c.control_at-clear.ensures
          (ran_bind _ c.control_at-reset.ensures
          (ran_bind _ c.control_at-enable.ensures
          (ran_bind _ (c.loaded-data.ensures small narrow low _)
          (c.clocked.ensures small narrow low _))))),
    )
