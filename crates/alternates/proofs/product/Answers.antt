-- `alternates::product` meets its contract. Invariant: the positions below `index` are compared, and what the model
-- does from `index` on completes its whole run (`ProductLeft`); each turn is one position.
-- Assumes nothing.
use mathlib.Core.Path.{◌∙◌}
use Prim.Native.Nat.{◌-◌}
use native.Mathlib.Omega.{arith}
use Rattle.vectors.proofs.Tables.{drop-tab, drop_all}
use Rattle.alternates.proofs.Loops.{product_turn, product-end}
use Rattle.alternates.proofs.product.Goals as goal

pub loop-index-preserved : goal.loop-index-preserved
loop-index-preserved c =
    let inv = c.loop-index.invariant in
    let index = c.loop-index.index in
    let n = c.args.n in
    let low = c.loop-index-test.true in (
      omega arith,
      c.position-result.auto.calls ∙ inv.1,
      c.position-result.auto.names ∙ inv.2,
      c.position-result.auto.marks ∙ inv.3,
      product_turn index _ _ (drop-tab n index _ low) (drop-tab n index _ low) inv.4
          (rw c.trit_at-mask.ensures at c.position-result.ensures),
    )

pub returns : goal.returns
returns c =
    product-end c.loop-index.index (drop_all c.args.n _ _ c.loop-index-test.false) c.loop-index.invariant.4
