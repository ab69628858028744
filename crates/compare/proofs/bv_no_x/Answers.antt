-- `compare::bv_no_x` meets its contract: its calls are those of the model, one after the other. Assumes nothing.
use Rattle.builder.proofs.Laws.{ran_bind}
use Rattle.smt.specs.Builder.{bv_no_x}
use Rattle.compare.proofs.bv_no_x.Goals as goal

pub returns : goal.returns
unfolding bv_no_x
returns c =
    λ low i j names marks.
    ran_bind _ (c.bv_is_zero-a_def.ensures low i names marks)
    (ran_bind _ (c.bv_is_zero-b_def.ensures low j names marks)
    (c.build_and.ensures names marks))
