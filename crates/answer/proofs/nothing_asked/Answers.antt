-- `answer::nothing_asked` meets its contract: no mark asks for a name. Assumes nothing.
use mathlib.Core.Path.{sym, ◌∙◌}
use borrow.Author.Tests.{tests}
use Rattle.std.proofs.Common.{rules}
use Rattle.std.proofs.lemmas.Iterator.{YieldsList-from_slice}
use Rattle.std.proofs.lemmas.Iterator.Search.{all_from_yields_List}
use Rattle.answer.proofs.ModelLaws.{unasked, nothing_all}
use Rattle.answer.proofs.nothing_asked.Goals as goal

pub returns : goal.returns
returns c =
    all_from_yields_List unasked _ _ _ c.all.ensures.ran (YieldsList-from_slice c.args.recorded.now cc)
    (λ x b q k. search (rules, tests))
    ∙ sym (nothing_all 0 c.args.recorded.now)
