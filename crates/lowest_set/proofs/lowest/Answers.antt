-- `lowest_set::lowest` meets its contract. The invariant: p is not 0 and every leaf left of those under it is. A leaf
-- that is reached so is that of the lowest number. The measure is what is left up to 8,192. Assumes nothing.
use mathlib.Core.Path.{sym, ◌∙◌}
use lib.Dec.{eqb}
use native.Mathlib.Omega.{arith}
use Rattle.lowest_set.proofs.Finding.{none-there, reached_root, reached_down, child_within}
use Rattle.lowest_set.proofs.Finding.{reached_leaf}
use Rattle.lowest_set.proofs.lowest.Goals as goal

pub returns-then-word_at-eq0 : goal.returns-then-word_at-eq0
returns-then-word_at-eq0 c = λ members holds. none-there holds (sym c.word_at.ensures ∙ c.if-word_at-eq0.true)

pub loop-p-init : goal.loop-p-init
loop-p-init c =
    (omega arith, omega arith, λ members holds. reached_root (λ e. c.if-word_at-eq0.false (c.word_at.ensures ∙ e)))

pub loop-p-preserved : goal.loop-p-preserved
loop-p-preserved c =
    let inv = c.loop-p.invariant in
    let child = child_within (eqb c.word_at-in-loop-p.result 0) c.loop-p.p in (
      rw c.unless_empty-p.ensures (omega (arith, inv.0, child)),
      rw c.unless_empty-p.ensures (omega (arith, c.loop-p-test.true, child)),
      λ members holds. rw c.unless_empty-p.ensures
          (reached_down holds (inv.2 members holds) inv.0 c.loop-p-test.true c.word_at-in-loop-p.ensures),
    )

pub returns : goal.returns
returns c = λ members holds. reached_leaf holds (c.loop-p.invariant.2 members holds) c.loop-p-test.false
