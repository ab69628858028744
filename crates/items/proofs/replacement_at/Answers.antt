-- A slot that was read is a payload.
use mathlib.Core.Path.{sym, ◌∙◌}
use native.Mathlib.Omega.{arith}
use Rattle.items.proofs.Laws.{listed-low}
use Rattle.items.proofs.replacement_at.Goals as goal

pub overflow_add-result : goal.overflow_add-result
overflow_add-result c =
    omega (arith, listed-low _ _ (sym c.listed_number_at.ensures ∙ c.in_ok-slot.was))
