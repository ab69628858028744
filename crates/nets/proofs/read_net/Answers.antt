-- `nets::read_net` meets its contract: the model's reader reads the trit that `age_by` tells. Assumes nothing.
use Rattle.nets.proofs.Laws.{reader_aged}
use Rattle.nets.proofs.read_net.Goals as goal

pub returns : goal.returns
returns c =
    λ low. rw (reader_aged, ← c.age_by.ensures low) (c.net_of.ensures low)
