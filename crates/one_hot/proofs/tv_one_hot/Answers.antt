-- `one_hot::tv_one_hot` meets its contract: it is a literal of zeros, but for the hot place. Assumes nothing.
use Rattle.builder.proofs.Laws.{ran_as}
use native.Mathlib.Omega.{arith}
use Rattle.logic.proofs.TableLaws.{length-tab}
use Rattle.bits.proofs.Literals.{narrow}
use Rattle.one_hot.proofs.Literals.{hot_x, hot_y}
use Rattle.one_hot.proofs.tv_one_hot.Goals as goal

pub returns : goal.returns
returns c =
    λ low inside names marks.
    let power = c.power_of_two.ensures (omega (arith, low, inside)) in
    ran_as (c.tv_lit.ensures _ (rw (narrow _ low) (hot_x _ _)) (rw (narrow _ low, power) (hot_y _ _)) names
    marks)
    (rw length-tab)
