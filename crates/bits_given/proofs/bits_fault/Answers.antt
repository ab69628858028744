-- `bits_given::bits_fault` meets its contract: between two records the fault is what the records left say. The measure
-- is how many words are left. Assumes nothing.
use mathlib.Core.Path.{sym, ◌∙◌}
use native.Mathlib.Omega.{arith}
use Rattle.call_list.proofs.CursorsLaws.{passed-next}
use Rattle.bits_given.proofs.GivenLaws.{bits-here, bits-next, bits-end}
use Rattle.bits_given.proofs.bits_fault.Goals as goal

pub returns-then-wrong_bits : goal.returns-then-wrong_bits
returns-then-wrong_bits c =
    let wrong = sym c.wrong_bits.ensures ∙ c.if-wrong_bits.true in
    sym (bits-here c.loop-seen.invariant c.loop-seen-test.true wrong)

pub loop-seen-preserved : goal.loop-seen-preserved
loop-seen-preserved c =
    let within = c.loop-seen-test.true in
    let few-terms = c.loop-seen.invariant.few-terms in
    let few-names = c.loop-seen.invariant.few-names in
    let next =
    passed-next c.args.calls.now c.loop-seen.seen c.next-seen.ensures (omega (arith, within, c))
    (omega (arith, within, few-terms, c)) (omega (arith, within, few-names, c)) in
    let right = sym c.wrong_bits.ensures ∙ c.if-wrong_bits.false in
    rw next (bits-next c.loop-seen.invariant within right)

pub returns : goal.returns
returns c = sym (bits-end c.loop-seen.invariant c.loop-seen-test.false)
