-- `loop_walk::note_read` meets its contract: each way out has what its tests say. Assumes nothing.
use Prim.Native.Nat.{◌%◌, ◌<◌}
use borrow.Author.Tests.{eq-eqb, ne_eqb, lt-ltb, le-ltb}
use Rattle.loops.specs.Edges.{done_in}
use Rattle.loop_walk.specs.Reads.{noted}
use Rattle.loop_walk.proofs.note_read.Goals as goal

pub returns-then-word_at-eq0 : goal.returns-then-word_at-eq0
unfolding noted done_in
returns-then-word_at-eq0 c = rw (← c.word_at.ensures, eq-eqb _ _ c.if-word_at-eq0.true)

pub returns-then-read-word_at : goal.returns-then-read-word_at
unfolding noted done_in
returns-then-read-word_at c =
    let less : c.args.edge % 4096 < c.word_at-2.result = c.if-read-word_at.true in
    rw (
      ← c.word_at.ensures,
      ne_eqb _ _ c.if-word_at-eq0.false,
      ← c.word_at-2.ensures,
      lt-ltb _ _ less,
    )
    c.put.ensures

pub returns-else-read-word_at : goal.returns-else-read-word_at
unfolding noted done_in
returns-else-read-word_at c =
    rw (
      ← c.word_at.ensures,
      ne_eqb _ _ c.if-word_at-eq0.false,
      ← c.word_at-2.ensures,
      le-ltb _ _ c.if-read-word_at.false,
    )
