-- `alternates::compared` meets its contract: its calls are those of the model, one after the other. Assumes nothing.
use Prim.Native.Nat.{◌<◌, ◌^◌}
use native.Mathlib.Omega.{arith}
use Rattle.builder.proofs.Laws.{ran_bind}
use Rattle.smt.specs.Builder.{compared, net}
use Rattle.smt.specs.Builder as model
use Rattle.alternates.proofs.compared.Goals as goal

pub returns : goal.returns
unfolding compared net model.net_of
returns c =
    let word_is = c.word_at.ensures in
    let net-is = c.payload.ensures in
    let low : c.payload.result < 2 ^ 29 = omega (arith, net-is) in
    ran_bind _ (rw (net-is, word_is) at (c.net-a.ensures low))
    (ran_bind _ (c.trit_lit-b.ensures _ _)
    (ran_bind _ (c.tv_xor-differ.ensures 1 1 _ _)
    (ran_bind _ (c.tv_not-same.ensures 1 _ _)
    (c.tv_and.ensures 1 1 _ _))))
