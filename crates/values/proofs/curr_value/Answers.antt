-- `values::curr_value` meets its contract: it is one call. Assumes nothing.
use Rattle.nets.specs.Reads.{reader}
use Rattle.values.proofs.curr_value.Goals as goal

pub returns : goal.returns
unfolding reader
returns c =
    c.output_value.ensures
