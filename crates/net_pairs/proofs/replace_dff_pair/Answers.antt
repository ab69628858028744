-- `net_pairs::replace_dff_pair` meets its contract: the induction step, and after it, in the ported mode, the ordinary
-- one. Assumes nothing.
use mathlib.Core.List.{[], ◌∷◌}
use Rattle.order.specs.Verify.{replace_dff_net}
use Rattle.net_pairs.proofs.Does.{does_append}
use Rattle.net_pairs.proofs.replace_dff_pair.Goals as goal

pub returns-in-Ported : goal.returns-in-Ported
returns-in-Ported c =
    λ low high.
    rw c.in-Ported.is
    (does_append (replace_dff_net _ _) (_ ∷ []) (c.replace_dff_net-joined.ensures low high)
    (c.replace_net.ensures low high))
