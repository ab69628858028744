-- `adc::adc_sum` meets its contract: its calls are those of the model, one after the other. Assumes nothing.
use Rattle.builder.proofs.Laws.{ran_bind}
use mathlib.Core.Path.{refl}
use Rattle.bitvec.specs.Bits.{nat2bv}
use Rattle.adc.specs.Parts.{adc_sum}
use Rattle.adc.proofs.adc_sum.Goals as goal

pub returns : goal.returns
unfolding adc_sum nat2bv
returns c =
    λ low names marks.
    ran_bind _ (c.bv_lit-zero.ensures _ refl names marks)
    (ran_bind _ (c.build_concat-a_ext.ensures 1 _ names marks)
    (ran_bind _ (c.bv_lit-zero-2.ensures _ refl names marks)
    (ran_bind _ (c.build_concat-b_ext.ensures 1 _ names marks)
    (ran_bind _ (c.build_binary-sum.ensures _ 1 names marks)
    (c.adc_carry.ensures low _ names marks)))))
