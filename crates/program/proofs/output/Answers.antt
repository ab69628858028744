-- `program::output` meets its contract: the input's own faults first, then its words. Assumes nothing.
use Prim.Native.Nat.{ℕ, ◌≤◌}
use mathlib.Core.Path.{sym, ◌∙◌}
use native.Mathlib.Omega.{arith}
use lib.ListN.{length, replicate, length-replicate}
use lib.Seq.{length-take-le}
use Rattle.little_endian.proofs.Laws.{words-read}
use Rattle.program.proofs.Laws.{input-refused, input-read}
use Rattle.program.proofs.output.Goals as goal

-- The program's own words are enough for any input.
enough : 16384 ≤ length {A = ℕ} (replicate 16384 0)
enough = let many = length-replicate {A = ℕ} 16384 0 in omega arith

pub slice_bounds-words-end-in-Ok : goal.slice_bounds-words-end-in-Ok
slice_bounds-words-end-in-Ok c =
    (words-read _ (replicate 16384 0) enough (sym c.in-Ok.is ∙ c.words.ensures.0)
    c.words.ensures.1).0

pub slice_bounds-put_list-end : goal.slice_bounds-put_list-end
slice_bounds-put_list-end c =
    sym (length-take-le _ _
    (words-read _ (replicate 16384 0) enough (sym c.in-Ok.is ∙ c.words.ensures.0)
    c.words.ensures.1).0)

pub returns-in-Err : goal.returns-in-Err
returns-in-Err c =
    rw (input-refused _ _ (sym c.in-Err.is ∙ c.words.ensures.0)) c.refuse.ensures

pub returns-in-Ok : goal.returns-in-Ok
returns-in-Ok c =
    let is = sym c.in-Ok.is ∙ c.words.ensures.0 in
    let words = words-read _ (replicate 16384 0) enough is c.words.ensures.1 in
    rw (input-read _ _ is, ← words.1) c.put_list.ensures
