-- `loop_walk::lowest_left` meets its contract: the first flag that is not 0 is that of the lowest node that is not
-- done. Assumes nothing.
use mathlib.Core.Path.{◌∙◌}
use Rattle.loop_walk.proofs.FirstLaws.{left-by_flags}
use Rattle.loop_walk.proofs.lowest_left.Goals as goal

pub returns : goal.returns
returns c =
    λ reads. c.unwrap_or.ensures ∙ rw c.first_flag.ensures (left-by_flags c.args.flags.now reads)
