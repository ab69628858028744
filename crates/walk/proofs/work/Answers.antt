-- `walk::work` meets its contract: the cells, then the net replacements. Assumes nothing.
use Rattle.walk.proofs.Along.{works}
use Rattle.walk.proofs.work.Goals as goal

pub returns : goal.returns
returns c =
    λ d accepts tells size.
    works _ _ accepts (c.verify_cells-cells.ensures _ d accepts tells size)
    (c.replace_pairs.ensures d _ accepts tells)
