-- `bits::bv_to_bool` meets its contract: its calls are those of the model, one after the other. Assumes nothing.
use Rattle.builder.proofs.Laws.{ran_bind}
use mathlib.Core.Path.{refl}
use Rattle.bitvec.specs.Bits.{nat2bv}
use Rattle.smt.specs.Builder.{bv_to_bool}
use Rattle.bits.proofs.bv_to_bool.Goals as goal

pub returns : goal.returns
unfolding bv_to_bool nat2bv
returns c =
    λ i names marks.
    ran_bind _ (c.bv_lit-one.ensures _ refl names marks)
    (c.build_bitvec_eq.ensures i 1 names marks)
