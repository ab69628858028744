-- `steps::check` meets its contract: with no obligation nothing is written; else the query, its assertion and the
-- check. Assumes nothing.
use mathlib.Core.Path.{refl, sym, ◌∙◌}
use borrow.Author.Tests.{eqb-true, eqb-false}
use Rattle.net_steps.proofs.Laws.{asks_nothing, asks-query}
use Rattle.steps.proofs.check.Goals as goal

pub returns-then-is_empty : goal.returns-then-is_empty
returns-then-is_empty c = asks_nothing _ (eqb-true _ _ (sym c.is_empty.ensures ∙ c.if-is_empty.true)) _ _

pub returns : goal.returns
returns c =
    asks-query _ (eqb-false _ _ (sym c.is_empty.ensures ∙ c.if-is_empty.false)) c.query-not_and_eqs.ensures c.assert_term-asserted.ensures
    c.check_sat.ensures refl refl
