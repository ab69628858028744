-- `loop_walk::write_loop` meets its contract. The invariant: writing the rest of the walk from here gives what writing
-- all of it from the start does. Assumes nothing.
use mathlib.Core.Path.{sym, ◌∙◌}
use Rattle.loop_walk.proofs.StepLaws.{step_below, write_turn, write_none}
use Rattle.loop_walk.proofs.write_loop.Goals as goal

pub loop-m-preserved : goal.loop-m-preserved
loop-m-preserved c = (
  c.loop-m.invariant.0 ∙ write_turn _ _ c.loop-m.slots c.loop-m.m _ _ c.loop-m-test.true
      ∙ rw (c.put.ensures, c.step-at.ensures),
  rw c.step-at.ensures (step_below _ _ c.requires.0 c.loop-m.at),
)

pub returns : goal.returns
returns c =
    sym (c.loop-m.invariant.0 ∙ write_none _ _ c.loop-m.slots c.loop-m.m _ _ c.loop-m-test.false)
