-- `net_pairs::replace_void_net` meets its contract: an assertion, and no obligation more. Assumes nothing.
use mathlib.Core.Path.{refl}
use Rattle.net_pairs.specs.Does.{obliged_in}
use Rattle.net_pairs.proofs.Does.{does_did}
use Rattle.net_pairs.proofs.replace_void_net.Goals as goal

pub returns : goal.returns
unfolding obliged_in
returns c =
    λ eqs low high.
    does_did refl refl (c.replace_void_net-counts.ensures low high)
