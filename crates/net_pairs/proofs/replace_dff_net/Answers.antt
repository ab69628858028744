-- `net_pairs::replace_dff_net` meets its contract: the join is asserted, and the term of the one obligation pushed.
-- Assumes nothing.
use mathlib.Core.Path.{refl}
use Rattle.net_pairs.specs.Does.{obliged_in}
use Rattle.net_pairs.proofs.Does.{does_pushed}
use Rattle.net_pairs.proofs.replace_dff_net.Goals as goal

pub returns : goal.returns
unfolding obliged_in
returns c =
    λ low high.
    does_pushed refl (c.replace_dff_net-eq.ensures low high) c.push.ensures
