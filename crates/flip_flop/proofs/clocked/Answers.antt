-- `flip_flop::clocked` meets its contract: its calls are those of the model, one after the other. Assumes nothing.
use Prim.Native.Nat.{◌<◌, ◌^◌}
use native.Mathlib.Omega.{arith}
use Rattle.builder.proofs.Laws.{ran_bind}
use Rattle.flip_flop.specs.Parts.{clocked}
use Rattle.flip_flop.proofs.clocked.Goals as goal

pub returns : goal.returns
unfolding clocked
returns c =
    λ small narrow low i.
    let word_is = c.word_at.ensures in
    let clock-is = c.control_of-clock.ensures in
    let net-low : c.control_of-clock.result.net.0 < 2 ^ 29 = rw clock-is (omega arith) in
    ran_bind _ (rw (clock-is, word_is) at (c.clock_net-active_edge.ensures net-low))
    (ran_bind _ (c.past_value-old.ensures narrow low)
    (ran_bind _ (c.tv_mux-value.ensures 1 i _ _ _)
    (c.cleared.ensures small _ _ _)))
