-- `bitvec::wrapping_mul` meets its contract. The invariant: modulo 2 ^ width the sum is that of the top j bits, which
-- is s times the number they form (`partial-product`). Assumes nothing.
use Rattle.std.proofs.Common.{◌-◌, true, false, ◌∙◌, arith, eq-eqb, ne_eqb}
use Rattle.bitvec.proofs.Products.{partial-none, partial-next}
use Rattle.bitvec.proofs.wrapping_mul.Goals as goal
use Rattle.bitvec.proofs.wrapping_mul.Goals.{then-t-width-eq1, else-t-width-eq1}

pub loop-j-init : goal.loop-j-init
loop-j-init c = (partial-none _ _ _, omega arith)

pub loop-j-preserved : goal.loop-j-preserved
loop-j-preserved c =
    let turn = c.loop-j in
    let a = c.args in
    let twice = c.wrapping_add_u64-sum.ensures.value in
    let next = partial-next a.s a.t a.width turn.j turn.sum _ _ c.requires turn.invariant.0 twice in (
      elim c.if-t-width-eq1.branch [
        | then-t-width-eq1 w ↦ next true (eq-eqb _ _ w.if-t-width-eq1.true) (w.sum-is ∙ w.wrapping_add_u64-sum-then-t-width-eq1.ensures.value)
        | else-t-width-eq1 w ↦ next false (ne_eqb _ _ w.if-t-width-eq1.false) w.sum-is
      ],
      omega arith,
    )
