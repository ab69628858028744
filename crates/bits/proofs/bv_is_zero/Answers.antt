-- `bits::bv_is_zero` meets its contract: its calls are those of the model, one after the other. Assumes nothing.
use Rattle.builder.proofs.Laws.{ran_bind}
use Rattle.smt.specs.Builder.{bv_is_zero}
use mathlib.Core.Path.{ap, ◌∙◌}
use Rattle.bitvec.specs.Bits.{nat2bv}
use Rattle.bits.proofs.Literals.{narrow, zeros-lit}
use Rattle.bits.proofs.bv_is_zero.Goals as goal

pub returns : goal.returns
unfolding bv_is_zero
returns c =
    λ low i names marks.
    ran_bind _ (c.bv_lit-zero.ensures _ (ap (λ w. nat2bv w 0) (narrow _ low) ∙ zeros-lit _) names marks)
    (c.build_bitvec_eq.ensures i 0 names marks)
