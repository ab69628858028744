-- `decision::chosen` meets its contract: its calls are those of the model, one after the other. Assumes nothing.
use Prim.Native.Nat.{◌<◌, ◌^◌}
use native.Mathlib.Omega.{arith}
use Rattle.builder.proofs.Laws.{ran_bind}
use Rattle.decision.specs.Parts.{chosen}
use Rattle.decision.proofs.chosen.Goals as goal

pub returns : goal.returns
unfolding chosen
returns c =
    λ small i.
    let word_is = c.word_at.ensures in
    let net-is = c.payload.ensures in
    let low : c.payload.result < 2 ^ 29 = omega (arith, net-is) in
    ran_bind _ (rw (net-is, word_is) at (c.net-enable.ensures low))
    (ran_bind _ (c.tv_zero-all_cold.ensures small _ _)
    (ran_bind _ (c.first_match-result.ensures small i _ _)
    (c.tv_mux.ensures 1 _ _ _ _)))
