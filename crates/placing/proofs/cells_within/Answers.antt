-- `placing::cells_within` meets its contract. The invariant is `Going`: reading and storing on from here gives what it
-- gives from the start. The measure is the slots that are left. Assumes nothing.
use Prim.Native.Nat.{◌-◌}
use mathlib.Core.Path.{sym, ◌∙◌}
use native.Mathlib.Omega.{arith}
use Rattle.std.proofs.lemmas.Result.{err_from_is_err_and}
use Rattle.placing.proofs.Laws.{going_start, going_turn, going_fault, going_done, placed-read}
use Rattle.placing.proofs.cells_within.Goals as goal

pub loop-slot-init : goal.loop-slot-init
loop-slot-init c = going_start _ _ _ _

pub returns-in_err-cell : goal.returns-in_err-cell
returns-in_err-cell c =
    let p = err_from_is_err_and c.from_residual.result c.from_residual.ensures.1 in
    rw (p.1, p.2)
    (going_fault _ _ _ c.loop-slot.invariant c.loop-slot-test.true (sym c.placed_at.ensures ∙ c.in_err-cell.was))

pub mark_word-requires : goal.mark_word-requires
mark_word-requires c =
    let is = placed-read _ _ _ _ _ (sym c.placed_at.ensures ∙ c.in_ok-cell.was) in (
      is.record_is.low-width,
      omega (arith, c.loop-slot.invariant.low),
    )

pub loop-slot-smaller : goal.loop-slot-smaller
loop-slot-smaller c =
    let is = placed-read _ _ _ _ _ (sym c.placed_at.ensures ∙ c.in_ok-cell.was) in
    omega (arith, is.ends)

pub loop-slot-preserved : goal.loop-slot-preserved
loop-slot-preserved c =
    let placed = sym c.placed_at.ensures ∙ c.in_ok-cell.was in
    rw (c.fill.ensures, c.mark_word.ensures, c.standing_of.ensures)
    (going_turn _ _ _ c.loop-slot.invariant c.loop-slot-test.true c.requires.0 placed)

pub returns : goal.returns
returns c = going_done _ _ _ c.loop-slot.invariant c.loop-slot-test.false
