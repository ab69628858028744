-- `reply::token_is` meets its contract: the part of the text is compared byte by byte. Assumes nothing.
use mathlib.Core.Path.{◌∙◌}
use Rattle.reply.proofs.Same.{same_part}
use Rattle.reply.proofs.token_is.Goals as goal

pub returns : goal.returns
returns c = c.eq.ensures ∙ same_part _ _ _ _ c.requires.0
