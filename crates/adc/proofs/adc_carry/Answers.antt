-- `adc::adc_carry` meets its contract: its calls are those of the model, one after the other. Assumes nothing.
use Prim.Native.Nat.{◌≤◌}
use Rattle.builder.proofs.Laws.{ran_bind, ran_ret}
use Rattle.bits.proofs.Literals.{narrow, zeros-lit}
use native.Mathlib.Omega.{arith}
use Rattle.adc.specs.Parts.{adc_carry}
use Rattle.adc.proofs.adc_carry.Goals as goal

pub returns : goal.returns
unfolding adc_carry
returns c =
    λ low w names marks.
    let n = c.args.n in
    let fits : n ≤ 64 = omega (arith, low) in
    rw c.trits.ensures
    (ran_bind _ (c.bv_lit-zero.ensures _ (rw (narrow n fits) (zeros-lit n)) names marks)
    (ran_bind _ (c.build_concat-carry_ext.ensures _ 1 names marks)
    (ran_ret _ (c.build_binary-y.ensures w w names marks))))
