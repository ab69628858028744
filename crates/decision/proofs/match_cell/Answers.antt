-- `decision::match_cell` meets its contract: its calls are those of the model, one after the other. Assumes nothing.
use mathlib.Core.Path.{ap, ◌∙◌}
use Prim.Native.Nat.{◌≤◌}
use native.Mathlib.Omega.{arith}
use Rattle.logic.specs.Word.{payload_of}
use Rattle.decision.proofs.Patterns.{length-patterns, match-bounds}
use Rattle.builder.proofs.Laws.{ran_bind}
use Rattle.smt.specs.Builder.{cell, match_cell}
use Rattle.decision.specs.Parts.{chosen}
use Rattle.decision.proofs.match_cell.Goals as goal

pub returns : goal.returns
unfolding cell match_cell chosen
returns c =
    λ bounded s w.
    let args = c.args in
    let nets-is = c.payload-n.ensures ∙ ap payload_of c.word_at.ensures in
    let count-is = c.payload-k.ensures ∙ ap payload_of c.word_at-2.ensures in
    let bounds = match-bounds args.fields.now bounded in
    let n = c.payload-n.result in
    let k = c.payload-k.result in
    let narrow : n ≤ 63 = omega (arith, nets-is, bounds.nets) in
    let short : k ≤ 63 = omega (arith, count-is, bounds.patterns) in
    let few = rw (← nets-is, ← count-is) at bounds.few in (
      k,
      rw (← nets-is, ← count-is, length-patterns)
          (ran_bind _ (c.matches-counts.ensures (omega (arith, short)) (omega (arith, narrow)) narrow short few)
          (ran_bind _ (c.tv_concat-found.ensures _ _)
          (ran_bind _ (c.tv_bind-bound.ensures k _ _)
          (c.chosen.ensures (omega (arith, short)) k)))),
    )
