-- `script::put_records` meets its contract. The loop's invariant: the walk has come to the cursor, the ring has the
-- sorts of the latest terms, and the lines of the records so far are written. The measure is what is left of the list.
-- Assumes nothing.
use Prim.Native.Nat.{◌+◌}
use mathlib.Core.Path.{refl, ap, ◌∙◌}
use mathlib.Core.List.{[]}
use native.Mathlib.Omega.{arith}
use Rattle.call_list.proofs.CursorsLaws.{passed-next}
use Rattle.engine.proofs.EmitLaws.{wrote_none, wrote_then}
use Rattle.script.specs.Text.{lines}
use Rattle.script.proofs.WalkLaws.{walked_start, walked-ready, walked_writable, walked_next}
use Rattle.script.proofs.WalkLaws.{passed-end, walked_line, lines_start}
use Rattle.script.proofs.put_records.Goals as goal

pub loop-seen-init : goal.loop-seen-init
loop-seen-init c =
    let has = c.requires in (
      has,
      refl,
      refl,
      0,
      walked_start _ _ _ _ has.formed,
      rw lines_start (wrote_none _ _ (omega arith)),
    )

pub loop-seen-preserved : goal.loop-seen-preserved
loop-seen-preserved c =
    let inv = c.loop-seen.invariant in
    let within = c.loop-seen-test.true in
    let next =
    passed-next c.args.calls.now c.loop-seen.seen c.next-seen.ensures (omega (arith, within, c))
    (omega (arith, within, inv.4.past.few-terms, c)) (omega (arith, within, inv.4.past.few-names, c)) in
    let ready = walked-ready inv.0 inv.4 within in
    let line = c.put_record-at.ensures _ ready (walked_writable inv.0 inv.4 within) in (
      inv.0,
      c.put_record-at.auto.text ∙ inv.1,
      c.note_recent.auto.recent ∙ inv.2,
      inv.3 + 1,
      rw (next, c.note_recent.ensures) (walked_next inv.0 inv.4 within),
      rw (walked_line inv.0 inv.4 within) (wrote_then inv.5 line c.well_formed.0.0),
    )

pub returns : goal.returns
returns c =
    let inv = c.loop-seen.invariant in
    rw (ap (lines []) (passed-end inv.4.past c.loop-seen-test.false)) at inv.5
