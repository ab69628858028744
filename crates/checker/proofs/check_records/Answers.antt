-- `checker::check_records` meets its contract: between two records the tables and counts are those of the calls so far,
-- and the answer from there is the answer. The measure is how many words are left. Assumes nothing.
use mathlib.Core.Path.{refl, sym, ◌∙◌}
use Rattle.call_list.proofs.CursorsLaws.{passed-next}
use native.Mathlib.Omega.{arith}
use Rattle.term_table.specs.Near.{sort_near}
use Rattle.record_faults.specs.Faults.{fault_by}
use Rattle.checker.proofs.CheckingLaws.{checking_start, checked-fault, record_wrong, record_right}
use Rattle.checker.proofs.CheckingLaws.{checked-end, checked_wrong}
use Rattle.checker.proofs.check_records.Goals as goal

pub loop-seen-init : goal.loop-seen-init
loop-seen-init c =
    let args = c.args in
    let first =
    checking_start args.gap args.calls.now args.places.now args.sorts.now args.recent.now
    args.names.now
    args.tops.now c.requires.0 c.requires.1 in
    (refl, refl, refl, refl, refl, first)

pub returns-then-checked : goal.returns-then-checked
returns-then-checked c =
    let inv = c.loop-seen.invariant in
    checked_wrong (checked-fault inv.5 c.loop-seen-test.true c.if-checked.true)

pub returns-in-Some : goal.returns-in-Some
returns-in-Some c =
    let args = c.args in
    let sort =
    sort_near c.loop-seen.sorts c.loop-seen.recent c.loop-seen.places args.gap args.calls.now c.loop-seen.seen.terms in
    let fault = fault_by sort c.loop-seen.names c.loop-seen.tops args.calls.now c.loop-seen.seen.terms c.loop-seen.seen.at in
    let wrong = sym c.record_fault.ensures ∙ c.in-Some.is in
    checked_wrong (record_wrong c.loop-seen.invariant.5 c.loop-seen-test.true c.if-checked.false _ wrong)

pub loop-seen-preserved : goal.loop-seen-preserved
loop-seen-preserved c =
    let args = c.args in
    let within = c.loop-seen-test.true in
    let few-terms = c.loop-seen.invariant.5.few-terms in
    let few-names = c.loop-seen.invariant.5.few-names in
    let next =
    passed-next args.calls.now c.loop-seen.seen c.next-seen.ensures (omega (arith, within, c))
    (omega (arith, within, few-terms, c)) (omega (arith, within, few-names, c)) in
    let sort =
    sort_near c.loop-seen.sorts c.loop-seen.recent c.loop-seen.places args.gap args.calls.now c.loop-seen.seen.terms in
    let fault = fault_by sort c.loop-seen.names c.loop-seen.tops args.calls.now c.loop-seen.seen.terms c.loop-seen.seen.at in
    let right = sym c.record_fault.ensures ∙ c.in_default.is in (
      c.note_place.auto.places ∙ c.loop-seen.invariant.0,
      c.note_sort.auto.sorts ∙ c.loop-seen.invariant.1,
      c.note_sort.auto.recent ∙ c.loop-seen.invariant.2,
      c.note_name.auto.names ∙ c.loop-seen.invariant.3,
      c.note_top.auto.tops ∙ c.loop-seen.invariant.4,
      rw (
        next,
        c.is_check-checked.ensures,
        c.operation_at.ensures,
        c.note_top.ensures,
        c.note_name.ensures,
        c.note_place.ensures,
        c.note_sort.ensures.0,
        c.note_sort.ensures.1,
      )
          (record_right c.loop-seen.invariant.5 c.loop-seen-test.true c.if-checked.false right),
    )

pub returns : goal.returns
returns c = checked-end c.loop-seen.invariant.5 c.loop-seen-test.false
