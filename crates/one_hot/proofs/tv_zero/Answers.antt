-- `one_hot::tv_zero` meets its contract: it is a literal of zeros. Assumes nothing.
use Rattle.builder.proofs.Laws.{ran_as}
use lib.ListN.{length-replicate}
use Rattle.bits.proofs.Literals.{narrow}
use Rattle.one_hot.proofs.Literals.{zeros-x, zeros-y}
use Rattle.one_hot.proofs.tv_zero.Goals as goal

pub returns : goal.returns
returns c =
    λ low names marks.
    ran_as (c.tv_lit.ensures _ (rw (narrow _ low) (zeros-x _)) (rw (narrow _ low) (zeros-y _)) names marks)
    (rw length-replicate)
