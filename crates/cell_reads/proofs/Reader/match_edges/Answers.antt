-- `cell_reads::Reader::match_edges` meets its contract: the enable, then the patterns; within the bounds of an accepted list
-- the two numbers are taken as they stand. Assumes nothing.
use mathlib.Core.Path.{◌≡◌, ap, ◌∙◌}
use Prim.Native.Nat.{◌+◌}
use native.Mathlib.Omega.{arith}
use Rattle.logic.specs.Word.{payload_of}
use Rattle.logic.proofs.TableLaws.{length-tab}
use Rattle.cell_reader.specs.Parse.{number_in, net_in}
use Rattle.cell_reader.proofs.AcceptedLaws.{length-patterns}
use Rattle.cell_reads.proofs.Adding.{adds_append}
use Rattle.cell_reads.proofs.Reader.match_edges.Goals as goal

pub returns : goal.returns
returns c =
    let pre = c.requires in
    let w = c.args.self.now.list.now in
    let at = c.args.at in
    let n-word = c.payload.ensures ∙ ap payload_of c.word_at.ensures in
    let k-word = c.payload-2.ensures ∙ ap payload_of c.word_at-2.ensures in
    λ bounded.
    let nets = length-tab (number_in w at) (λ i. net_in w (at + 3 + i)) in
    let patterns = length-patterns w (number_in w at) (number_in w (at + 1)) (at + 3 + number_in w at) in
    let n-is : c.min-n.result ≡ number_in w at =
    omega (arith, c.min-n.ensures, n-word, nets, bounded.0) in
    let k-is : c.min-k.result ≡ number_in w (at + 1) =
    omega (arith, c.min-k.ensures, k-word, patterns, bounded.1) in
    let enable = c.net_edge-enabled.ensures (omega (arith, pre.0)) in
    adds_append enable (rw (n-is, k-is) at c.patterns_edges.ensures bounded.2)
