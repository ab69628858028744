-- `answer::bad_mark` meets its contract: the first mark that the test finds. Assumes nothing.
use mathlib.Core.Path.{sym, ◌∙◌}
use lib.Dec.{ltb}
use borrow.Author.Tests.{tests}
use Rattle.std.proofs.Common.{rules}
use Rattle.std.proofs.lemmas.Iterator.{YieldsList-from_slice}
use Rattle.std.proofs.lemmas.Iterator.Search.{position_from_yields_List}
use Rattle.std.proofs.lemmas.Iterator.Adapters.{position_from-zero}
use Rattle.answer.proofs.ModelLaws.{bad_mark_position}
use Rattle.answer.proofs.bad_mark.Goals as goal

pub returns : goal.returns
returns c =
    position_from_yields_List (ltb 2) _ _ _ c.position.ensures.ran (YieldsList-from_slice c.args.recorded.now cc)
    (λ x b q k. search (rules, tests))
    ∙ position_from-zero (ltb 2) c.args.recorded.now ∙ sym (bad_mark_position 0 c.args.recorded.now)
