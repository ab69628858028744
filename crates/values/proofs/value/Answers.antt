-- `values::value` meets its contract: it is one call. Assumes nothing.
use Rattle.nets.specs.Reads.{reader}
use Rattle.values.proofs.value.Goals as goal

pub returns : goal.returns
unfolding reader
returns c =
    c.read_value.ensures
