-- `loop_walk::follow` meets its contract. The invariant (`Walking`): the nodes met so far are all different, and the
-- table has the place of each. Assumes nothing.
use mathlib.Core.Path.{◌≡◌, ap, ◌∙◌}
use native.Mathlib.Omega.{arith}
use lib.ListN.{length, length-replicate}
use Rattle.loop_walk.proofs.WalkingLaws.{walking_start, walking_before, walking_within, walking_turn}
use Rattle.loop_walk.proofs.WalkingLaws.{walking_loop, walking_found}
use Rattle.loop_walk.proofs.follow.Goals as goal

pub loop-k-init : goal.loop-k-init
loop-k-init c =
    rw c.requires.2 (walking_start c.args.next.now _ _ c.requires.1)

pub overflow_sub-result : goal.overflow_sub-result
overflow_sub-result c =
    rw c.word_at-first.ensures
    (walking_before _ _ _ _ _ _ c.loop-k.invariant (rw c.word_at-first.ensures at c.if-first-n.true))

pub returns-then-first-n : goal.returns-then-first-n
returns-then-first-n c =
    rw c.word_at-first.ensures
    (walking_found _ _ _ _ _ _ c.loop-k.invariant (rw c.word_at-first.ensures at c.if-first-n.true))

pub loop-k-preserved : goal.loop-k-preserved
loop-k-preserved c =
    let long = c.loop-k.auto.met ∙ ap length c.requires.2 ∙ length-replicate 4096 c.args.n in
    rw (c.put.ensures, c.step-at.ensures)
    (walking_turn _ _ _ c.loop-k.met c.loop-k.at c.loop-k.k c.loop-k.invariant c.requires.0 long
    c.loop-k-test.true (rw c.word_at-first.ensures at c.if-first-n.false))

pub overflow_sub-result-2 : goal.overflow_sub-result-2
overflow_sub-result-2 c =
    let within = walking_within _ _ _ _ _ _ c.loop-k.invariant in
    rw c.word_at.ensures (omega (arith, within, c.loop-k-test.false))

pub returns : goal.returns
returns c =
    let all : c.loop-k.k ≡ c.args.n = omega arith in
    rw c.word_at.ensures (walking_loop _ _ _ _ _ _ (rw all at c.loop-k.invariant) (λ _. omega arith))
