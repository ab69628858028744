-- `asked::is_declared` meets its contract. The loop's invariant: no record before `head` declares the name.
-- The measure is what is left of the list. Assumes nothing.
use mathlib.Core.Path.{◌≡◌, sym, ◌∙◌}
use native.Mathlib.Omega.{arith}
use Rattle.engine.specs.Encode.{bare, next_at}
use Rattle.asked.proofs.Ending.{none-start, none-next, none_end, some-here}
use Rattle.asked.proofs.is_declared.Goals as goal

pub loop-head-init : goal.loop-head-init
loop-head-init c = (0, none-start _ _)

pub returns-then-declares_here : goal.returns-then-declares_here
returns-then-declares_here c =
    sym (some-here c.loop-head.invariant.1 c.loop-head-test.true
    (sym c.declares_here.ensures ∙ c.if-declares_here.true))

pub loop-head-preserved : goal.loop-head-preserved
loop-head-preserved c =
    let inside = c.loop-head-test.true in
    let short = c.well_formed.0 in
    let next : next_at bare c.args.calls.now c.loop-head.head ≡ c.next_record-head.result =
    omega (arith, inside, c.next_record-head.ensures) in
    let step = none-next c.loop-head.invariant.1 inside (sym c.declares_here.ensures ∙ c.if-declares_here.false) in
    (_, rw next at step)

pub returns : goal.returns
returns c = sym (none_end c.loop-head.invariant.1 c.loop-head-test.false)
