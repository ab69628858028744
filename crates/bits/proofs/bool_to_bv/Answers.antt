-- `bits::bool_to_bv` meets its contract: its calls are those of the model, one after the other. Assumes nothing.
use Rattle.builder.proofs.Laws.{ran_bind}
use mathlib.Core.Path.{refl}
use Rattle.bitvec.specs.Bits.{nat2bv}
use Rattle.smt.specs.Builder.{bool_to_bv}
use Rattle.bits.proofs.bool_to_bv.Goals as goal

pub returns : goal.returns
unfolding bool_to_bv nat2bv
returns c =
    λ names marks.
    ran_bind _ (c.bv_lit-one.ensures _ refl names marks)
    (ran_bind _ (c.bv_lit-zero.ensures _ refl names marks)
    (c.build_bitvec_ite.ensures 1 1 names marks))
