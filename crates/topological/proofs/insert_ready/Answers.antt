-- `topological::insert_ready` meets its contract: each way out has what its tests say. Assumes nothing.
use Rattle.topological.proofs.Settling.{joined-ready, joined_waits, joined-done}
use Rattle.topological.proofs.insert_ready.Goals.{else-word_at-ne0-via-then-word_at-ne0+else-word_at-eq0}
use Rattle.topological.proofs.insert_ready.Goals.{else-word_at-ne0-via-else-word_at-ne0}
use Rattle.topological.proofs.insert_ready.Goals as goal

pub returns-then-word_at-eq0 : goal.returns-then-word_at-eq0
returns-then-word_at-eq0 c =
    let args = c.args in
    λ members h low.
    rw
    (joined-ready members args.flags.now args.waits.now args.a
    (rw (← c.word_at.ensures) c.if-word_at-ne0.true) (rw (← c.word_at-then-word_at-ne0.ensures) c.if-word_at-eq0.true))
    (c.insert.ensures members h low)

pub returns-else-word_at-ne0 : goal.returns-else-word_at-ne0
returns-else-word_at-ne0 c =
    let args = c.args in
    λ members h low.
    elim c.else-word_at-ne0.branch [
      | else-word_at-ne0-via-then-word_at-ne0+else-word_at-eq0 w ↦ rw
          (joined_waits members args.flags.now args.waits.now args.a
          (rw (← w.word_at-then-word_at-ne0.ensures) w.if-word_at-eq0.false))
          h
      | else-word_at-ne0-via-else-word_at-ne0 w ↦ rw
          (joined-done members args.flags.now args.waits.now args.a
          (rw (← c.word_at.ensures) w.if-word_at-ne0.false))
          h
    ]
