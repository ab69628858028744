-- `engine::push` meets its contract: the word is stored by `put`, and the count stops at its largest number. Assumes
-- nothing.
use Rattle.engine.specs.Emit.{overwrite}
use Rattle.engine.proofs.push.Goals as goal

pub returns : goal.returns
unfolding overwrite
returns c = record { words = c.put.ensures; count = c.saturating_add.ensures }
