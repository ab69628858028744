-- `nets::net` meets its contract: the model's `net` reads the trit that `age_in` tells. Assumes nothing.
use Rattle.nets.proofs.Laws.{net_aged}
use Rattle.nets.proofs.net.Goals as goal

pub returns : goal.returns
returns c =
    λ low. rw (net_aged, ← c.age_in.ensures low) (c.net_of.ensures low)
