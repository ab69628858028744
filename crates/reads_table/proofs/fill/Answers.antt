-- `reads_table::fill` meets its contract: the cells' words, then the Voids', are those of all reads (`filled`). Assumes
-- nothing.
use native.Mathlib.Omega.{arith}
use Rattle.reads_table.proofs.Filling.{reps_between, filled}
use Rattle.reads_table.proofs.fill.Goals as goal

pub returns : goal.returns
returns c =
    λ mode d replacements accepts is.
    let cells = c.fill_cells-cells.ensures mode d replacements _ accepts is in
    let between = reps_between mode _ accepts in
    let low = cells.1 in
    let pairs = c.fill_pairs.ensures mode d replacements accepts is (omega arith) in
    filled mode _ accepts cells.0 pairs.0 pairs.1
