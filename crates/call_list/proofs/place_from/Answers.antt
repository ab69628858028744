-- `call_list::place_from` meets its contract: from each record on, the scan finds the place that it finds from the
-- first. The measure is how many words are left. Assumes nothing.
use Prim.Native.Nat.{◌-◌}
use mathlib.Core.Path.{◌≡◌, refl, sym, ap, ap₂, ◌∙◌}
use native.Mathlib.Omega.{arith}
use lib.ListN.{length}
use Rattle.engine.specs.Encode.{makes_term, bare, next_at}
use Rattle.engine.specs.Structure.{term_place}
use Rattle.engine.proofs.StructureLaws.{place_end, place_here, place-next, place_skip}
use Rattle.call_list.proofs.place_from.Goals as goal
use Rattle.call_list.proofs.place_from.Goals.{then-makes_term+else-more-eq0, else-makes_term}

pub loop-at-init : goal.loop-at-init
loop-at-init c = (length c.args.calls.now, omega arith, refl)

pub returns-then-more-eq0 : goal.returns-then-more-eq0
returns-then-more-eq0 c =
    let state = c.loop-at in
    let w = c.args.calls.now in
    let inv = state.invariant in
    let makes = sym (c.makes_term.ensures ∙ ap makes_term c.operation_at.ensures)
    ∙ c.if-makes_term.true in
    sym (inv.2
    ∙ place_here w state.at state.more c.loop-at-test.true inv.0 (omega arith) makes c.if-more-eq0.true)

pub loop-at-preserved : goal.loop-at-preserved
loop-at-preserved c =
    let state = c.loop-at in
    let w = c.args.calls.now in
    let inv = state.invariant in
    let next : c.next_record-at.result ≡ next_at bare w state.at =
    omega (arith, c.next_record-at.ensures, c.loop-at-test.true) in
    let makes = sym (c.makes_term.ensures ∙ ap makes_term c.operation_at.ensures) in
    elim c.if-makes_term.branch [
      | then-makes_term+else-more-eq0 w₁ ↦ (
        inv.0 - 1,
        omega arith,
        inv.2 ∙ place-next w state.at state.more c.loop-at-test.true inv.0 (omega arith) (makes ∙ w₁.if-makes_term.true)
            w₁.if-more-eq0.false
            ∙ ap₂ (term_place (inv.0 - 1) w) (sym next) (sym w₁.more-is),
      )
      | else-makes_term w₁ ↦ (
        inv.0 - 1,
        omega arith,
        inv.2 ∙ place_skip w state.at state.more c.loop-at-test.true inv.0 (omega arith) (makes ∙ w₁.if-makes_term.false)
            ∙ ap₂ (term_place (inv.0 - 1) w) (sym next) (sym w₁.more-is),
      )
    ]

pub returns : goal.returns
returns c =
    let state = c.loop-at in
    let inv = state.invariant in
    sym (inv.2
    ∙ place_end inv.0 c.args.calls.now state.at state.more
    c.loop-at-test.false)
