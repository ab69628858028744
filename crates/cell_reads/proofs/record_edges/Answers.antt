-- `cell_reads::record_edges` meets its contract: a readable record stands in the list, and its fields begin after its
-- head. Assumes nothing.
use Rattle.cell_reader.specs.Parse.{cell_at}
use Rattle.cell_reads.proofs.record_edges.Goals as goal

pub returns : goal.returns
unfolding cell_at
returns c =
    λ readable low small. rw c.op_at-op.ensures at c.fields_edges.ensures readable.bounded
