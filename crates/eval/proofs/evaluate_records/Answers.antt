-- `eval::evaluate_records` meets its contract: between two records what is written and counted is that of the calls so
-- far. The measure is how many words are left. Assumes nothing.
use mathlib.Core.Path.{refl, ◌∙◌}
use native.Mathlib.Omega.{arith}
use Rattle.call_list.proofs.CursorsLaws.{passed-next}
use Rattle.eval.proofs.RecordLaws.{evaluated_start, evaluated_next, evaluated_end}
use Rattle.eval.proofs.evaluate_records.Goals as goal

pub loop-done-init : goal.loop-done-init
loop-done-init c =
    (refl, refl, evaluated_start c.args.recent.now c.requires)

pub loop-done-preserved : goal.loop-done-preserved
loop-done-preserved c =
    let within = c.loop-done-test.true in
    let few-terms = c.loop-done.invariant.2.few-terms in
    let few-names = c.loop-done.invariant.2.few-names in
    let next =
    passed-next c.args.calls.now c.loop-done.done c.next-done.ensures (omega (arith, within, c))
    (omega (arith, within, few-terms, c)) (omega (arith, within, few-names, c)) in (
      c.write_value.auto.values ∙ c.loop-done.invariant.0,
      c.note_recent.auto.recent ∙ c.loop-done.invariant.1,
      rw (
        next,
        c.note_recent.ensures,
        c.write_value.ensures,
        c.number_at-given.ensures,
        c.false_of-falses.ensures,
        c.number_at-asserted.ensures,
        c.argument_at.ensures,
        c.operation_at-operation.ensures,
      )
          (evaluated_next c.loop-done.invariant.2 within),
    )

pub returns : goal.returns
returns c = evaluated_end c.loop-done.invariant.2 c.loop-done-test.false
