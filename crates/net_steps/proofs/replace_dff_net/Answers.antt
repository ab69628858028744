-- `net_steps::replace_dff_net` meets its contract: the join, then the obligation. Assumes nothing.
use mathlib.Core.List.{[], ◌∷◌}
use Rattle.net_steps.proofs.Laws.{did_append}
use Rattle.net_steps.proofs.replace_dff_net.Goals as goal

pub returns : goal.returns
returns c =
    λ low high.
    did_append (_ ∷ []) (_ ∷ []) (c.join_pasts-joined.ensures low high) (c.currents.ensures low high)
