-- `script::terms_in` meets its contract: the records up to the cursor make as many terms as it counts. The measure is
-- what is left of the list. Assumes nothing.
use Prim.Native.Nat.{◌+◌}
use mathlib.Core.Path.{ap, ◌∙◌}
use mathlib.Core.List.{List}
use native.Mathlib.Omega.{arith}
use lib.ListN.{length}
use Rattle.engine.specs.Call.{Call}
use Rattle.call_list.specs.Made.{made}
use Rattle.call_list.proofs.CursorsLaws.{passed-next}
use Rattle.script.proofs.WalkLaws.{passed_start, passed-more, passed-end}
use Rattle.script.proofs.terms_in.Goals as goal

pub loop-seen-init : goal.loop-seen-init
loop-seen-init c = (0, passed_start _)

pub loop-seen-preserved : goal.loop-seen-preserved
loop-seen-preserved c =
    let past = c.loop-seen.invariant.1 in
    let within = c.loop-seen-test.true in
    let next =
    passed-next c.args.calls.now c.loop-seen.seen c.next-seen.ensures (omega (arith, within, c))
    (omega (arith, within, past.few-terms, c)) (omega (arith, within, past.few-names, c)) in
    (c.loop-seen.invariant.0 + 1, rw next (passed-more past within))

pub returns : goal.returns
returns c =
    let past = c.loop-seen.invariant.1 in
    past.reached.many ∙ ap (λ (l : List Call). length (made l)) (passed-end past c.loop-seen-test.false)
