-- `walk::verify_cells` meets its contract: along the cells (`Along`), each turn does the steps of one cell, and after
-- the last slot none is left. Assumes nothing.
use mathlib.Core.Path.{refl, ◌∙◌}
use Prim.Native.Nat.{◌-◌}
use native.Mathlib.Omega.{arith}
use Rattle.walk.proofs.Along.{along_start, along_step, along_end}
use Rattle.walk.proofs.verify_cells.Goals as goal

pub loop-index-init : goal.loop-index-init
loop-index-init c = (refl, refl, refl, refl, λ mode d accepts tells size. along_start mode _ accepts tells _ _ _ _ _)

pub loop-index-preserved : goal.loop-index-preserved
loop-index-preserved c =
    let inv = c.loop-index.invariant in (
      c.verify_cell-s.auto.calls ∙ inv.0,
      c.verify_cell-s.auto.names ∙ inv.1,
      c.verify_cell-s.auto.marks ∙ inv.2,
      c.verify_cell-s.auto.eqs ∙ inv.3,
      λ mode d accepts tells size.
          along_step mode _ accepts tells (inv.4 mode d accepts tells size)
          (omega (arith, c.loop-index-test.true)) refl c.verify_cell-s.ensures
          c.next_at-at.ensures c.rep_after-rep.ensures c.slots_at.ensures,
    )

pub returns : goal.returns
returns c =
    λ mode d accepts tells size. along_end mode _ accepts tells (c.loop-index.invariant.4 mode d accepts tells size)
    (omega (arith, c.loop-index-test.false))
