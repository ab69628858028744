-- `bitvec::equal` meets its contract: at one width vectors are equal where their numbers are. Assumes nothing.
use Rattle.std.proofs.Common.{sym}
use Rattle.bitvec.proofs.WordLaws.{too_narrow, too_wide, holds_none}
use Rattle.bitvec.proofs.Lemmas.{word_equal}
use Rattle.bitvec.proofs.equal.Goals as goal

pub returns-then-width-lt1 : goal.returns-then-width-lt1
returns-then-width-lt1 c = sym (holds_none _ _ (too_narrow _ c.if-width-lt1.true))

pub returns-then-width-gt64 : goal.returns-then-width-gt64
returns-then-width-gt64 c = sym (holds_none _ _ (too_wide _ c.if-width-gt64.true))

pub returns : goal.returns
returns c =
    let a = c.args in
    rw (c.reduce.ensures, c.reduce-2.ensures)
    (word_equal a.width a.s a.t c.if-width-lt1.false c.if-width-gt64.false)
