-- `term_table::sort_through` meets its contract: what is summed so far, with the sort of the term gone on with, is the
-- sort of the term asked. Each step goes to an earlier term, so the term's number is the measure of the loop and of the
-- calls. Assumes nothing.
use Rattle.std.proofs.Common.{ℕ, suc, ◌+◌, sym, ap, ◌∙◌, arith}
use Rattle.engine.specs.Structure.{capped}
use Rattle.term_table.specs.Near.{origin_in, sort_via}
use Rattle.term_table.proofs.NearLaws.{near_below, via_low, via_given, via_same, via_joined}
use Rattle.term_table.proofs.Sums.{sum-start, sum-given, sum-joined}
use Rattle.term_table.proofs.+sort_through.Goals as goal

pub loop-s-init : goal.loop-s-init
loop-s-init m c =
    let args = c.args in
    let t = args.tables in
    let k = args.term in
    let known = origin_in args.tables args.terms in
    (omega arith, sum-start (sort_via (suc k) known k) (via_low (suc k) known k))

pub returns-in-Given : goal.returns-in-Given
returns-in-Given m c =
    let state = c.loop-s in
    let args = c.args in
    let t = args.tables in
    let known = origin_in args.tables args.terms in
    let below = near_below t.sorts.now t.recent.now t.places.now t.gap t.calls.now args.terms in
    let origin = sym c.term_origin.ensures ∙ c.in-Given.is in
    c.capped_sum.ensures ∙ sym (sum-given state.total _)
    ∙ ap (λ (n : ℕ). capped (state.total + n)) (sym (via_given known below state.k origin))
    ∙ state.invariant.1

pub loop-s-preserved-in-Same : goal.loop-s-preserved-in-Same
loop-s-preserved-in-Same m c =
    let state = c.loop-s in
    let args = c.args in
    let t = args.tables in
    let known = origin_in args.tables args.terms in
    let below = near_below t.sorts.now t.recent.now t.places.now t.gap t.calls.now args.terms in
    let origin = sym c.term_origin.ensures ∙ c.in-Same.is in
    let said = via_same known below state.k origin in
    (omega (arith, said.0, state.invariant.0), ap (λ (n : ℕ). capped (state.total + n)) (sym said.1) ∙ state.invariant.1)

pub loop-s-smaller-in-Same : goal.loop-s-smaller-in-Same
loop-s-smaller-in-Same m c =
    let state = c.loop-s in
    let args = c.args in
    let t = args.tables in
    let known = origin_in args.tables args.terms in
    let below = near_below t.sorts.now t.recent.now t.places.now t.gap t.calls.now args.terms in
    let origin = sym c.term_origin.ensures ∙ c.in-Same.is in
    (via_same known below state.k origin).0

pub sort_through-requires : goal.sort_through-requires
sort_through-requires m c =
    let state = c.loop-s in
    let args = c.args in
    let t = args.tables in
    let known = origin_in args.tables args.terms in
    let below = near_below t.sorts.now t.recent.now t.places.now t.gap t.calls.now args.terms in
    let origin = sym c.term_origin.ensures ∙ c.in-Joined.is in
    let said = via_joined known below state.k origin in
    (omega (arith, said.1, state.invariant.0, c.decreases), tt)

pub loop-s-smaller : goal.loop-s-smaller
loop-s-smaller m c =
    let state = c.loop-s in
    let args = c.args in
    let t = args.tables in
    let known = origin_in args.tables args.terms in
    let below = near_below t.sorts.now t.recent.now t.places.now t.gap t.calls.now args.terms in
    let origin = sym c.term_origin.ensures ∙ c.in-Joined.is in
    let said = via_joined known below state.k origin in
    said.0

pub loop-s-preserved : goal.loop-s-preserved
loop-s-preserved m c =
    let state = c.loop-s in
    let args = c.args in
    let t = args.tables in
    let known = origin_in args.tables args.terms in
    let below = near_below t.sorts.now t.recent.now t.places.now t.gap t.calls.now args.terms in
    let origin = sym c.term_origin.ensures ∙ c.in-Joined.is in
    let said = via_joined known below state.k origin in
    let a = c.in-Joined.a.0 in
    let b = c.in-Joined.b.0 in
    let sum = c.capped_sum-total.ensures ∙ ap (λ (n : ℕ). capped (state.total + n)) c.sort_through.ensures in (
      omega (arith, said.0, state.invariant.0),
      ap (λ (n : ℕ). capped (n + sort_via (suc a) known a)) sum
          ∙ sum-joined state.total (sort_via (suc a) known a) (sort_via (suc b) known b)
          ∙ ap (λ (n : ℕ). capped (state.total + n)) (sym said.2) ∙ state.invariant.1,
    )
