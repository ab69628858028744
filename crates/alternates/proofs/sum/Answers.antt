-- `alternates::sum` meets its contract. Invariant: the alternates below i are summed, and what the model does from i on
-- completes its whole run (`SumLeft`); each turn is one alternate, whose place is exact within the premise.
-- Assumes nothing.
use mathlib.Core.Path.{ap, ◌∙◌}
use Prim.Native.Nat.{◌-◌}
use native.Mathlib.Omega.{arith}
use Rattle.logic.specs.Word.{payload_of}
use Rattle.smt.specs.Builder.{match_of}
use Rattle.builder.proofs.Laws.{ran_bind}
use Rattle.vectors.proofs.Tables.{drop-tab, drop_all}
use Rattle.alternates.proofs.Loops.{sum_turn, sum-end}
use Rattle.alternates.proofs.Places.{alternate-low}
use Rattle.alternates.proofs.sum.Goals as goal

pub loop-i-preserved : goal.loop-i-preserved
loop-i-preserved c =
    let args = c.args in
    let inv = c.loop-i.invariant in
    let i = c.loop-i.i in
    let m = c.payload-alternates.result in
    let low = c.loop-i-test.true in (
      omega arith,
      c.tv_or-sum.auto.calls ∙ c.product-prd.auto.calls ∙ c.trit_lit-one.auto.calls ∙ inv.1,
      c.product-prd.auto.names ∙ inv.2,
      c.product-prd.auto.marks ∙ inv.3,
      λ room.
          let place_is = c.alternate_at-place.ensures ∙ alternate-low args.at i m args.n low room in
          sum_turn i _ (drop-tab m i _ low) (inv.4 room)
          (c.trit_lit-one.ensures _ _)
          (rw place_is at c.product-prd.ensures)
          (c.tv_or-sum.ensures 1 1 _ _),
    )

pub returns : goal.returns
unfolding match_of
returns c =
    let number = c.payload-alternates.ensures ∙ ap payload_of c.word_at.ensures in
    λ room.
    let fits = rw (← number) at room in
    rw (← number)
    (ran_bind _ (c.trit_lit-sum.ensures _ _)
    (sum-end c.loop-i.i (drop_all c.payload-alternates.result _ _ c.loop-i-test.false)
    (c.loop-i.invariant.4 fits)))
