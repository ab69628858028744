-- `syntax::put_sort` meets its contract: Bool at 0, otherwise a vector of the width. Assumes nothing.
use Rattle.engine.proofs.EmitLaws.{wrote_then}
use Rattle.syntax.proofs.Laws.{sort-vector}
use Rattle.syntax.proofs.put_sort.Goals as goal

pub returns : goal.returns
returns c =
    let short = c.well_formed.0.0 in
    rw (sort-vector _ c.if-sort-eq0.false)
    (wrote_then (wrote_then c.put_bytes-width.ensures c.put_number-closing.ensures short)
    c.put_byte.ensures short)
