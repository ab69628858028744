-- `cell_reads::Reader::run_edges` meets its contract: the nets of the record stand in one run after its numbers, and that run
-- is read. Assumes nothing.
use mathlib.Core.Path.{ap, ◌∙◌}
use Prim.Native.Nat.{◌+◌}
use Rattle.logic.specs.Word.{payload_of}
use Rattle.cell.specs.declared.Fields.{Fields}
use Rattle.cell.specs.declared.Numbers.{Numbers}
use Rattle.nets.specs.Reads.{past_in}
use Rattle.cell_reads.proofs.Records.{run-reads}
use Rattle.cell_reads.proofs.Reader.run_edges.Goals as goal

pub returns : goal.returns
returns c =
    let args = c.args in
    let size = ap (λ (f : Fields). f.controls + f.nets) c.fields_of-fields.ensures in
    let count = ap (λ (l : Numbers). l.count) c.numbers_of-numbers.ensures in
    let n-is = c.payload-n.ensures ∙ ap payload_of c.word_at.ensures in
    let m-is = c.payload-m.ensures ∙ ap payload_of c.word_at-2.ensures in
    λ is.
    rw (← run-reads (past_in args.self.now.table.now) args.self.now.list.now args.at args.op is)
    (rw (size, count, n-is, m-is) at c.nets_edges.ensures)
