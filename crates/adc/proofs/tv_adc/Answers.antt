-- `adc::tv_adc` meets its contract: two binds, the carries' x stored and joined, then the sum. Assumes nothing.
use mathlib.Core.Path.{◌≡◌}
use Prim.Native.Nat.{◌+◌}
use native.Mathlib.Omega.{arith}
use Rattle.builder.specs.Ran.{following}
use Rattle.builder.proofs.Laws.{ran_bind}
use Rattle.smt.specs.Builder.{tv_adc}
use Rattle.adc.specs.Parts.{adc_sum, adc_carry}
use Rattle.adc.proofs.tv_adc.Goals as goal

pub returns : goal.returns
unfolding tv_adc adc_sum adc_carry
returns c =
    λ low i j names marks.
    let n = c.args.n in
    let next : following n ≡ n + 1 = omega (arith, low) in
    let width : 1 + n ≡ n + 1 = omega arith in
    ran_bind _ (c.tv_bind-a.ensures i names marks)
    (ran_bind _ (c.tv_bind-b.ensures j names marks)
    (ran_bind _ (c.carry_x-counts.ensures (omega (arith, low)) _ names marks)
    (ran_bind _ (rw (c.following.ensures, next) at (c.bv_concat-x.ensures names marks))
    (rw width at (c.adc_sum.ensures low names marks)))))
