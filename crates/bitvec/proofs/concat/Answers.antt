-- `bitvec::concat` meets its contract: its tests are those of `concat_at`, in the same order, and past them the high
-- part, shifted, or the low part is the number of the whole. Assumes nothing.
use Rattle.std.proofs.Common.{le-leb}
use borrow.Author.Tests.{lt-leb}
use Rattle.bitvec.specs.Words.{concat_at}
use Rattle.bitvec.proofs.Lemmas.{word_concat}
use Rattle.bitvec.proofs.concat.Goals as goal

pub returns-then-m-lt1 : goal.returns-then-m-lt1
unfolding concat_at
returns-then-m-lt1 c = rw (lt-leb _ _ c.if-m-lt1.true)

pub returns-then-n-lt1 : goal.returns-then-n-lt1
unfolding concat_at
returns-then-n-lt1 c = rw (le-leb _ _ c.if-m-lt1.false, lt-leb _ _ c.if-n-lt1.true)

pub returns-then-m-n-gt64 : goal.returns-then-m-n-gt64
unfolding concat_at
returns-then-m-n-gt64 c =
    rw (le-leb _ _ c.if-m-lt1.false, le-leb _ _ c.if-n-lt1.false, lt-leb _ _ c.if-m-n-gt64.true)

pub returns : goal.returns
unfolding concat_at
returns c =
    let a = c.args in
    let some-high = c.if-m-lt1.false in
    let some-low = c.if-n-lt1.false in
    let fits = c.if-m-n-gt64.false in
    rw (le-leb _ _ some-high, le-leb _ _ some-low, le-leb _ _ fits, c.reduce.ensures, c.reduce-2.ensures)
    (word_concat a.m a.s a.n a.t some-high some-low fits)
