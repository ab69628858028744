-- `cell_reads::Reader::flip_flop_edges` meets its contract: the clock, then the three other controls and the data, which stand
-- in one run. Assumes nothing.
use mathlib.Core.Path.{ap, ◌∙◌}
use native.Mathlib.Omega.{arith}
use Rattle.logic.specs.Word.{payload_of}
use Rattle.nets.specs.Reads.{past_in}
use Rattle.cell_reads.proofs.Adding.{adds_append}
use Rattle.cell_reads.proofs.Records.{flip_flop_reads_lem}
use Rattle.cell_reads.proofs.Reader.flip_flop_edges.Goals as goal

pub returns : goal.returns
returns c =
    let pre = c.requires in
    let number = c.payload-n.ensures ∙ ap payload_of c.word_at.ensures in
    let clock = c.net_edge-clocked.ensures (omega (arith, pre.0)) in
    rw (← flip_flop_reads_lem (past_in c.args.self.now.table.now) c.args.self.now.list.now c.args.at, ← number)
    (adds_append clock c.nets_edges.ensures)
