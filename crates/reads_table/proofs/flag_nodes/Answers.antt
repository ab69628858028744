-- `reads_table::flag_nodes` meets its contract: the asserted cells and the replaced Voids are all nodes
-- (`flags_whole`). Assumes nothing.
use Rattle.reads_table.proofs.Flags.{flags_whole}
use Rattle.reads_table.proofs.flag_nodes.Goals as goal

pub returns : goal.returns
returns c =
    λ mode d replacements accepts is zeros. flags_whole mode _ accepts zeros
    (c.flag_cells.ensures mode d replacements _ accepts is)
    (c.flag_pairs.ensures mode d replacements accepts is)
