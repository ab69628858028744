-- `lowest_set::renew` meets its contract. The invariant: the word at p alone may be wrong. Computing it again can make
-- only the word above it wrong, and above the root there is none. The measure is p. Assumes nothing.
use native.Mathlib.Omega.{arith}
use lib.ListN.{length-set}
use Rattle.lowest_set.proofs.Changing.{leaf-stored, word_computed, all_right}
use Rattle.lowest_set.proofs.renew.Goals as goal

pub loop-p-preserved : goal.loop-p-preserved
loop-p-preserved c =
    let inv = c.loop-p.invariant in (
      rw c.put-in-loop-p.ensures (simp length-set inv.0),
      omega (arith, inv.1),
      λ members except. rw c.put-in-loop-p.ensures
          (word_computed (inv.2 members except) c.loop-p-test.true c.word_at-left.ensures
          c.word_at-right.ensures c.max.ensures),
    )

pub returns : goal.returns
returns c =
    λ before after holds low changes.
    all_right (c.loop-p.invariant.2 after (rw c.put.ensures (leaf-stored holds low changes)))
    (omega (arith, c.loop-p-test.false))
