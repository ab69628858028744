-- `term_values::and_value` meets its contract: from each argument on, the scan finds what it finds from the first.
-- Assumes nothing.
use borrow.Author.Tests.{eq-eqb, ne_eqb}
use Prim.Native.Nat.{◌+◌, ◌-◌}
use mathlib.Core.Path.{◌≡◌, sym, ap, ◌∙◌}
use mathlib.Core.Bool.{true, false}
use native.Mathlib.Omega.{arith}
use Rattle.engine.specs.WellFormed.{first_failing}
use Rattle.engine.proofs.Steps.{failing_none, failing_turn, failing_here}
use Rattle.term_values.proofs.RecordsLaws.{is_one, all_ones, and-scan}
use Rattle.term_values.proofs.and_value.Goals as goal

pub loop-i-preserved : goal.loop-i-preserved
loop-i-preserved c =
    let args = c.args in
    let test = is_one args.values.now args.calls.now args.at in
    let holds : test c.loop-i.i ≡ true =
    rw (← c.argument_value.ensures, eq-eqb _ _ c.if-argument_value-ne1.false) in
    c.loop-i.invariant ∙ failing_turn test c.loop-i.i (args.n - c.loop-i.i) (omega arith) holds
    ∙ ap (first_failing test (c.loop-i.i + 1))
    (let e : args.n - c.loop-i.i - 1 ≡ args.n - (c.loop-i.i + 1) = omega arith in e)

pub returns-then-argument_value-ne1 : goal.returns-then-argument_value-ne1
returns-then-argument_value-ne1 c =
    let args = c.args in
    let test = is_one args.values.now args.calls.now args.at in
    let falls : test c.loop-i.i ≡ false =
    rw (← c.argument_value.ensures, ne_eqb _ _ c.if-argument_value-ne1.true) in
    sym (and-scan args.values.now args.calls.now args.at args.n
    ∙ ap all_ones (c.loop-i.invariant ∙ failing_here test c.loop-i.i (args.n - c.loop-i.i) (omega arith) falls))

pub returns : goal.returns
returns c =
    let args = c.args in
    sym (and-scan args.values.now args.calls.now args.at args.n
    ∙ ap all_ones (c.loop-i.invariant
    ∙ failing_none (is_one args.values.now args.calls.now args.at) c.loop-i.i (args.n - c.loop-i.i)
    (omega arith)))
