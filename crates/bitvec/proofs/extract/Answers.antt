-- `bitvec::extract` meets its contract: its tests are those of `extract_at`, in the same order, and past them bits j to
-- i of the word are those of the vector. Assumes nothing.
use Rattle.std.proofs.Common.{◌<◌, ◌≤◌, ◌∙◌, arith, le-ltb, lt-ltb, le-leb}
use borrow.Author.Tests.{lt-leb}
use Rattle.bitvec.specs.Words.{extract_at}
use Rattle.bitvec.proofs.Lemmas.{word_extract}
use Rattle.bitvec.proofs.extract.Goals as goal

pub returns-then-width-gt64 : goal.returns-then-width-gt64
unfolding extract_at
returns-then-width-gt64 c = rw (lt-leb _ _ c.if-width-gt64.true)

pub returns-then-width-i : goal.returns-then-width-i
unfolding extract_at
returns-then-width-i c =
    let a = c.args in
    rw (le-leb a.width 64 (omega arith), le-ltb a.i a.width (omega arith))

pub returns-then-i-j : goal.returns-then-i-j
unfolding extract_at
returns-then-i-j c =
    let a = c.args in
    rw (le-leb a.width 64 (omega arith), lt-ltb a.i a.width (omega arith), lt-leb a.j a.i (omega arith))

pub returns : goal.returns
unfolding extract_at
returns c =
    let a = c.args in
    let small : a.width ≤ 64 = omega arith in
    let inside : a.i < a.width = omega arith in
    let ordered : a.j ≤ a.i = omega arith in
    rw (le-leb _ _ small, lt-ltb _ _ inside, le-leb _ _ ordered)
    (c.reduce.ensures ∙ word_extract a.width a.i a.j a.s small inside ordered)
