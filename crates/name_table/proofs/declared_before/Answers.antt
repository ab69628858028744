-- `name_table::declared_before` meets its contract: from each record on, the scan answers what it answers from the
-- first. The measure is how many words are left. Assumes nothing.
use Prim.Native.Nat.{ℕ, ◌-◌, min}
use mathlib.Core.Path.{◌≡◌, sym, ap, ◌∙◌}
use native.Mathlib.Omega.{arith}
use lib.ListN.{length}
use Rattle.engine.specs.Encode.{bare, next_at}
use Rattle.engine.specs.Structure.{declared_from}
use Rattle.engine.proofs.StructureLaws.{declared-end, declared-here, declared-next}
use Rattle.name_table.proofs.declared_before.Goals as goal

pub returns-then-end-at : goal.returns-then-end-at
returns-then-end-at c =
    let inv = c.loop-at.invariant in
    let args = c.args in
    let w = args.calls.now in
    let end = min args.end (length w) in
    sym (inv.2 ∙ declared-end w end args.letter args.index args.suffix inv.0 c.loop-at.at (omega arith))

pub returns-then-declares_at : goal.returns-then-declares_at
returns-then-declares_at c =
    let inv = c.loop-at.invariant in
    let args = c.args in
    let w = args.calls.now in
    let end = min args.end (length w) in
    let found = sym c.declares_at.ensures ∙ c.if-declares_at.true in
    sym (inv.2
    ∙ declared-here w end args.letter args.index args.suffix inv.0 c.loop-at.at (omega arith) (omega arith)
    found)

pub loop-at-preserved : goal.loop-at-preserved
loop-at-preserved c =
    let inv = c.loop-at.invariant in
    let args = c.args in
    let w = args.calls.now in
    let end = min args.end (length w) in
    let other = sym c.declares_at.ensures ∙ c.if-declares_at.false in
    let inside = c.loop-at-test.true in
    let next : c.next_record-at.result ≡ next_at bare w c.loop-at.at = omega (arith, c.next_record-at.ensures, inside) in (
      inv.0 - 1,
      omega arith,
      inv.2
          ∙ declared-next w end args.letter args.index args.suffix inv.0 c.loop-at.at (omega arith)
          (omega arith) other
          ∙ ap (λ (k : ℕ). declared_from (inv.0 - 1) w k end args.letter args.index args.suffix) (sym next),
    )

pub returns : goal.returns
returns c =
    let inv = c.loop-at.invariant in
    let args = c.args in
    let w = args.calls.now in
    sym (inv.2
    ∙ declared-end w (min args.end (length w)) args.letter args.index args.suffix inv.0 c.loop-at.at
    (omega arith))
