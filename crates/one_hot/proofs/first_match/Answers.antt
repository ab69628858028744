-- `one_hot::first_match` meets its contract. Invariant: the patterns from `index` on are chosen from, and what the
-- model does below `index` completes its whole run (`MatchLeft`); each turn is one pattern.
-- Assumes nothing.
use mathlib.Core.Path.{◌≡◌, ◌∙◌}
use Prim.Native.Nat.{suc, ◌-◌}
use native.Mathlib.Omega.{arith}
use Rattle.one_hot.proofs.Loops.{match_turn, match-end}
use Rattle.one_hot.proofs.first_match.Goals as goal

pub loop-index-preserved : goal.loop-index-preserved
loop-index-preserved c =
    let inv = c.loop-index.invariant in
    let index = c.loop-index.index in
    let k = c.args.k in
    let above = c.loop-index-test.true in (
      omega arith,
      c.tv_mux-result.auto.calls ∙ c.tv_one_hot-hot.auto.calls ∙ c.tv_extract-hit.auto.calls ∙ inv.1,
      λ low i names marks.
          match_turn index above (inv.2 low i names marks)
          (c.tv_extract-hit.ensures i names marks)
          (c.tv_one_hot-hot.ensures low (omega (arith, inv.0, above)) names marks)
          (c.tv_mux-result.ensures (suc (index - 1) - (index - 1)) k k names marks),
    )

pub returns : goal.returns
returns c =
    let none : c.loop-index.index ≡ 0 = omega (arith, c.loop-index-test.false) in
    λ low i names marks. match-end (rw none at (c.loop-index.invariant.2 low i names marks))
