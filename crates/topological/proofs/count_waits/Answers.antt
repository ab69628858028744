-- `topological::count_waits` meets its contract: by the flag, one edge more is counted for its reader or not at all.
-- Assumes nothing.
use borrow.Author.Tests.{eq-eqb, ne_eqb}
use native.Mathlib.Omega.{arith}
use Rattle.loops.specs.Edges.{done_in}
use Rattle.topological.proofs.Tables.{words-low}
use Rattle.topological.proofs.Counting.{waiting_le, counts-done, counts-one}
use Rattle.topological.proofs.count_waits.Goals.{then-word_at-ne0, else-word_at-ne0}
use Rattle.topological.proofs.count_waits.Goals as goal

pub overflow_add-many : goal.overflow_add-many
overflow_add-many c =
    let args = c.args in
    let at = c.loop-edge in
    let counted = waiting_le args.edges.now (done_in args.flags.now) at.edge-index in
    let few = words-low at.edge-index at.invariant counted in
    omega (arith, c.word_at-many.ensures, few c.reader_of-reader.result, c.requires.0, c.loop-edge-test.true)

pub loop-edge-preserved : goal.loop-edge-preserved
unfolding done_in
loop-edge-preserved c =
    let edges = c.args.edges.now in
    let flags = c.args.flags.now in
    let at = c.loop-edge in
    elim c.if-word_at-ne0.branch [
      | then-word_at-ne0 w ↦ rw (w.waits-is, w.put.ensures, w.word_at-many.ensures, w.reader_of-reader.ensures)
          (counts-one edges (done_in flags) at.edge-index at.invariant
          (rw (← c.read_of.ensures, ← c.word_at.ensures) (ne_eqb _ _ w.if-word_at-ne0.true)))
      | else-word_at-ne0 w ↦ rw w.waits-is
          (counts-done edges (done_in flags) at.edge-index at.invariant
          (rw (← c.read_of.ensures, ← c.word_at.ensures) (eq-eqb _ _ w.if-word_at-ne0.false)))
    ]
