-- `reads_table::fill_pairs` meets its contract: along the net replacements (`VoidReadsLeft`), each turn stores the read
-- of the Void that one replaces, if it is one's, and at the last word none is left. Assumes nothing.
use native.Mathlib.Omega.{arith}
use Rattle.reads_table.proofs.Filling.{void-reads-start, void-reads-step, void-reads-end}
use Rattle.reads_table.proofs.fill_pairs.Goals as goal

pub loop-at-init : goal.loop-at-init
loop-at-init c = λ mode d replacements accepts is low. void-reads-start mode _ accepts _ _ low

pub loop-at-preserved : goal.loop-at-preserved
loop-at-preserved c =
    λ mode d replacements accepts is low.
    void-reads-step mode _ accepts is (c.loop-at.invariant mode d replacements accepts is low) c.loop-at-test.true
    c.net_at-from_net.ensures c.net_at-to_net.ensures c.void_of-replaced.ensures
    c.void_edge-count.ensures

pub returns : goal.returns
returns c =
    λ mode d replacements accepts is low. void-reads-end (c.loop-at.invariant mode d replacements accepts is low)
    c.loop-at-test.false

-- Past the largest place there is no word.
pub returns-2 : goal.returns-2
returns-2 c =
    λ mode d replacements accepts is low.
    void-reads-end
    (void-reads-step mode _ accepts is (c.loop-at.invariant mode d replacements accepts is low) c.loop-at-test.true
    c.net_at-from_net.ensures c.net_at-to_net.ensures c.void_of-replaced.ensures
    c.void_edge-count.ensures)
    (omega arith)
