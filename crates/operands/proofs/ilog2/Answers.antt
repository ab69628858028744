-- `operands::ilog2` meets its contract: the stride, or 1 where it is 0, reaches the power of two of the exponent and not
-- the next. Assumes nothing.
use mathlib.Core.Path.{sym}
use native.Mathlib.Nat.{pow-suc}
use native.Mathlib.Omega.{arith}
use Rattle.smt.proofs.ShowsShift.{ilog2-is}
use Rattle.operands.proofs.ilog2.Goals as goal

pub returns : goal.returns
returns c =
    let reached = rw c.max.ensures at c.ilog2.ensures.power_le in
    let below = rw c.max.ensures at c.ilog2.ensures.next_power_gt in
    sym (ilog2-is _ _ reached (omega (arith, pow-suc 2 c.ilog2.result, below)))
