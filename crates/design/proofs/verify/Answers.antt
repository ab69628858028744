-- `design::verify` meets its contract: a number that is no mode is refused, any other is the number of its mode.
-- Assumes nothing.
use mathlib.Core.Path.{sym, ◌∙◌}
use Rattle.design.proofs.Verifies.{unknown_verifies}
use Rattle.design.proofs.verify.Goals as goal

pub returns-in-None : goal.returns-in-None
returns-in-None c =
    rw c.no_mode.ensures
    (unknown_verifies _ (sym c.mode_of.ensures ∙ c.in-None.is) _ _ _)
