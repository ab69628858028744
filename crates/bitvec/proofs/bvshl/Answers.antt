-- `bitvec::bvshl` meets its contract: below 64 what passes 2 ^ 64 does not count, from 64 on nothing is left. Assumes
-- nothing.
use Rattle.std.proofs.Common.{◌∙◌}
use Rattle.bitvec.proofs.Lemmas.{word_bvshl, word_bvshl_out}
use Rattle.bitvec.proofs.bvshl.Goals as goal

pub returns-then-amount-lt64 : goal.returns-then-amount-lt64
returns-then-amount-lt64 c =
    let a = c.args in
    c.reduce.ensures ∙ word_bvshl a.width a.s a.t _ c.reduce-amount.ensures

pub returns-else-amount-lt64 : goal.returns-else-amount-lt64
returns-else-amount-lt64 c =
    let a = c.args in
    word_bvshl_out a.width a.s a.t (rw c.reduce-amount.ensures at c.if-amount-lt64.false)
