-- `loop_walk::step` meets its contract: each way out has what its test says. Assumes nothing.
use borrow.Author.Tests.{lt-ltb, le-ltb}
use Rattle.loop_walk.specs.Steps.{step}
use Rattle.loop_walk.proofs.step.Goals as goal

pub returns-then-to-n : goal.returns-then-to-n
unfolding step
returns-then-to-n c = rw (← c.word_at-to.ensures, lt-ltb _ _ c.if-to-n.true)

pub returns-else-to-n : goal.returns-else-to-n
unfolding step
returns-else-to-n c = rw (← c.word_at-to.ensures, le-ltb _ _ c.if-to-n.false)
