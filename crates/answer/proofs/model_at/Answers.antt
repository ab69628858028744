-- `answer::model_at` meets its contract: with nothing asked the text ends, otherwise a list is read. Assumes nothing.
use mathlib.Core.List.{[]}
use mathlib.Core.Path.{sym, ◌∙◌}
use Rattle.answer.proofs.ModelLaws.{model-none, nothing-table}
use Rattle.answer.proofs.model_at.Goals as goal

pub returns-then-nothing_asked : goal.returns-then-nothing_asked
returns-then-nothing_asked c =
    let none = sym c.nothing_asked.ensures ∙ c.if-nothing_asked.true in
    ([], [], _, rw (model-none _ _ none, c.in_ok-end_at.ensures), nothing-table _ _ none)
