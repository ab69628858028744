-- `topological::settle` meets its contract: a word of the table is at least 1, and past the table nothing changes.
-- Assumes nothing.
use native.Mathlib.Omega.{arith}
use Prim.Native.Nat.{◌<◌}
use lib.ListN.{get_or}
use Rattle.topological.proofs.Settling.{settle_low, settle_none, settle_one}
use Rattle.topological.proofs.settle.Goals as goal

pub returns-then-left-gt0 : goal.returns-then-left-gt0
returns-then-left-gt0 c =
    let args = c.args in
    λ left h.
    let more : 0 < get_or args.waits.now args.a 0 = omega (arith, c.word_at-left.ensures, c.if-left-gt0.true) in
    rw (c.put.ensures, c.word_at-left.ensures)
    (settle_one left args.a h more
    (rw (c.put.ensures, c.word_at-left.ensures)
    at (c.insert_ready.ensures _ h.ready (settle_low left args.a h more))))

pub returns-else-left-gt0 : goal.returns-else-left-gt0
returns-else-left-gt0 c =
    let args = c.args in
    λ left h. settle_none left args.a h (omega (arith, c.word_at-left.ensures, c.if-left-gt0.false))
