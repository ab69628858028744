-- `design::counts` meets its contract: a number that is no mode is refused, any other is the number of its mode.
-- Assumes nothing.
use mathlib.Core.Path.{sym, ◌∙◌}
use Rattle.design.proofs.Verifies.{unknown-unroomed}
use Rattle.design.proofs.counts.Goals as goal

pub returns-in-None : goal.returns-in-None
returns-in-None c =
    c.no_mode.ensures
    ∙ unknown-unroomed _ (sym c.mode_of.ensures ∙ c.in-None.is) _
