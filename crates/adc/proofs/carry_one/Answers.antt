-- `adc::carry_one` meets its contract: its calls are those of the model, one after the other. Assumes nothing.
use Rattle.builder.proofs.Laws.{ran_bind}
use Rattle.adc.specs.Parts.{carry_one}
use Rattle.adc.proofs.carry_one.Goals as goal

pub returns : goal.returns
unfolding carry_one
returns c =
    λ i names marks.
    ran_bind _ (c.build_extract-a_x.ensures i names marks)
    (ran_bind _ (c.build_extract-b_x.ensures i names marks)
    (ran_bind _ (c.build_binary-either.ensures _ 1 names marks)
    (ran_bind _ (c.build_binary-any.ensures 1 1 names marks)
    (c.bv_bind.ensures 1 names marks))))
