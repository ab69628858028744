-- `answer::pairs_at` meets its contract: the entries, the closing parenthesis and the end of the text, in this order.
-- Assumes nothing.
use mathlib.Core.List.{[]}
use Rattle.answer.proofs.ModelLaws.{scanned}
use Rattle.answer.proofs.pairs_at.Goals as goal

pub returns : goal.returns
returns c =
    let entries = scanned _ _ c.in_ok-closing.ensures in
    (entries.0, [], _, rw (entries.1, c.in_ok-last.ensures, c.in_ok-end_at.ensures), entries.2)
