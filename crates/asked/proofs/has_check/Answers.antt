-- `asked::has_check` meets its contract. The loop's invariant: the records before `head` have no check.
-- The measure is what is left of the list. Assumes nothing.
use mathlib.Core.Path.{◌≡◌, sym, ◌∙◌}
use native.Mathlib.Omega.{arith}
use Rattle.engine.specs.Encode.{bare, next_at}
use Rattle.asked.proofs.Ending.{checked-any, none-start, none-next, none_end, some-here}
use Rattle.asked.proofs.has_check.Goals as goal

pub loop-head-init : goal.loop-head-init
loop-head-init c = (0, none-start _ _)

pub returns-then-checks_here : goal.returns-then-checks_here
returns-then-checks_here c =
    let check = sym c.checks_here.ensures ∙ c.if-checks_here.true in
    sym (checked-any _ ∙ some-here c.loop-head.invariant.1 c.loop-head-test.true check)

pub loop-head-preserved : goal.loop-head-preserved
loop-head-preserved c =
    let inside = c.loop-head-test.true in
    let short = c.well_formed.0 in
    let next : next_at bare c.args.calls.now c.loop-head.head ≡ c.next_record-head.result =
    omega (arith, inside, c.next_record-head.ensures) in
    let none = sym c.checks_here.ensures ∙ c.if-checks_here.false in
    let step = none-next c.loop-head.invariant.1 inside none in
    (_, rw next at step)

pub returns : goal.returns
returns c = sym (checked-any _ ∙ none_end c.loop-head.invariant.1 c.loop-head-test.false)
