-- `operands::extension` meets its contract: a value that has nets has its top net last. Assumes nothing.
use mathlib.Core.Path.{◌∙◌}
use borrow.Author.Rules.{rules}
use Rattle.logic.specs.Table.{tab}
use Rattle.operands.proofs.Nets.{msb_last}
use Rattle.operands.proofs.extension.Goals as goal

pub returns-then-n-eq0 : goal.returns-then-n-eq0
unfolding tab
returns-then-n-eq0 c = search rules

pub returns-then-signed : goal.returns-then-signed
returns-then-signed c =
    let args = c.args in
    rw c.if-signed.true (c.word_at.ensures ∙ msb_last args.words.now args.n args.at c.if-n-eq0.false)
