-- `bitvec::reduce` meets its contract: below 64 the remainder by 2 ^ width is `nat2bv`'s number, at 64 a word is its
-- own remainder, and above 64 the answer is 0. Assumes nothing.
use Rattle.std.proofs.Common.{sym, arith}
use Rattle.bitvec.proofs.WordLaws.{reduced, at_none, too_wide}
use Rattle.bitvec.proofs.Arithmetic.{one_shl}
use Rattle.bitvec.proofs.Lemmas.{whole}
use Rattle.bitvec.proofs.reduce.Goals as goal

pub returns-then-width-lt64 : goal.returns-then-width-lt64
returns-then-width-lt64 c = rw (one_shl _ c.if-width-lt64.true) (sym (reduced _ _ (omega arith)))

pub returns-then-width-eq64 : goal.returns-then-width-eq64
returns-then-width-eq64 c = whole _ _ c.if-width-eq64.true (omega arith)

pub returns : goal.returns
returns c = sym (at_none _ _ (too_wide _ (omega arith)))
