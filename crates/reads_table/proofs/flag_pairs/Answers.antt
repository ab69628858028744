-- `reads_table::flag_pairs` meets its contract: along the net replacements (`VoidsLeft`), each turn flags the Void that
-- one replaces, if it is one's, and at the last word none is left. Assumes nothing.
use native.Mathlib.Omega.{arith}
use Rattle.reads_table.proofs.Flags.{voids-start, voids-step, voids-end}
use Rattle.reads_table.proofs.flag_pairs.Goals as goal

pub loop-at-init : goal.loop-at-init
loop-at-init c = λ mode d replacements accepts is. voids-start mode _ accepts _

pub loop-at-preserved : goal.loop-at-preserved
loop-at-preserved c =
    λ mode d replacements accepts is.
    voids-step is (c.loop-at.invariant mode d replacements accepts is) c.loop-at-test.true
    c.net_at-from_net.ensures c.net_at-to_net.ensures c.flag_pair.ensures

pub returns : goal.returns
returns c =
    λ mode d replacements accepts is. voids-end (c.loop-at.invariant mode d replacements accepts is)
    c.loop-at-test.false

-- Past the largest place there is no word.
pub returns-2 : goal.returns-2
returns-2 c =
    λ mode d replacements accepts is.
    voids-end
    (voids-step is (c.loop-at.invariant mode d replacements accepts is) c.loop-at-test.true
    c.net_at-from_net.ensures c.net_at-to_net.ensures c.flag_pair.ensures)
    (omega arith)
