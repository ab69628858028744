-- `bitvec::msb` meets its contract: bit width - 1 of the word is the top bit of the vector. Assumes nothing.
use Rattle.std.proofs.Common.{sym, ◌∙◌}
use Rattle.bitvec.proofs.WordLaws.{too_narrow, too_wide, holds_none, holds_width}
use Rattle.bitvec.proofs.Lemmas.{word_msb}
use Rattle.bitvec.proofs.msb.Goals as goal

pub returns-then-width-lt1 : goal.returns-then-width-lt1
returns-then-width-lt1 c = sym (holds_none _ _ (too_narrow _ c.if-width-lt1.true))

pub returns-then-width-gt64 : goal.returns-then-width-gt64
returns-then-width-gt64 c = sym (holds_none _ _ (too_wide _ c.if-width-gt64.true))

pub returns : goal.returns
returns c =
    let a = c.args in
    sym (holds_width _ _ c.if-width-lt1.false c.if-width-gt64.false ∙ word_msb a.width a.s c.if-width-lt1.false)
