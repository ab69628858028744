-- `ordering::order_by` meets its contract: the order goes into turns of its own; where a node is left the loop is
-- written, else the turns are copied. Assumes nothing.
use mathlib.Core.Path.{sym, ◌∙◌}
use native.Mathlib.Omega.{arith}
use Rattle.ordering.proofs.Answers.{loops_by, orders_by, turns_few}
use Rattle.ordering.proofs.Left.{left-listed}
use Rattle.ordering.proofs.Ready.{zeros}
use Rattle.ordering.proofs.order_by.Goals as goal

pub returns-then-any_left : goal.returns-then-any_left
returns-then-any_left c =
    let same = sym (left-listed _) ∙ sym c.any_left.ensures ∙ c.if-any_left.true in
    loops_by (c.sort-n.ensures c.requires.0 c.requires.1) same (c.name_loop.ensures (omega arith))

pub returns : goal.returns
returns c =
    let same = sym (left-listed _) ∙ sym c.any_left.ensures ∙ c.if-any_left.false in
    let all = c.sort-n.ensures c.requires.0 c.requires.1 in
    let few = turns_few all c.requires.1 in
    orders_by all (omega (arith, c.requires.1, zeros)) same
    (c.copy.ensures (omega (arith, few, c.sort-n.auto.slots, zeros)))
