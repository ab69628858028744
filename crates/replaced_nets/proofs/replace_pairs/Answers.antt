-- `replaced_nets::replace_pairs` meets its contract: along the net replacements (`AlongPairs`), each turn does the
-- steps of one pair, and at the last word none is left. Assumes nothing.
use mathlib.Core.Path.{refl, ◌∙◌}
use Prim.Native.Nat.{◌-◌}
use Rattle.design_list.proofs.AcceptedLaws.{accepted-read}
use Rattle.replaced_nets.proofs.Pairs.{pairs_along, pairs_turn, pairs-done}
use Rattle.replaced_nets.proofs.replace_pairs.Goals as goal

pub loop-at-init : goal.loop-at-init
loop-at-init c = (refl, refl, refl, refl, λ d replacements accepts tells. pairs_along _ _ accepts _ _ _ _ _)

pub loop-at-preserved : goal.loop-at-preserved
loop-at-preserved c =
    let inv = c.loop-at.invariant in (
      c.replace_pair-s.auto.calls ∙ inv.0,
      c.replace_pair-s.auto.names ∙ inv.1,
      c.replace_pair-s.auto.marks ∙ inv.2,
      c.replace_pair-s.auto.eqs ∙ inv.3,
      λ d replacements accepts tells.
          pairs_turn (accepted-read _ _ accepts).same-mode tells (inv.4 d replacements accepts tells)
          c.loop-at-test.true c.net_at-from_net.ensures c.net_at-to_net.ensures
          c.replace_pair-s.ensures,
    )

pub returns : goal.returns
returns c =
    λ d replacements accepts tells. pairs-done (c.loop-at.invariant.4 d replacements accepts tells)
    c.loop-at-test.false
