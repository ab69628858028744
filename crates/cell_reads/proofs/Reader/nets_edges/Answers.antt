-- `cell_reads::Reader::nets_edges` meets its contract. The invariant: the reads of the nets passed are added, and the nets left
-- complete the run. Assumes nothing.
use mathlib.Core.Path.{◌≡◌}
use Prim.Native.Nat.{◌+◌, ◌-◌}
use native.Mathlib.Omega.{arith}
use Rattle.cell_reader.specs.Parse.{net_in}
use Rattle.nets.specs.Reads.{past_in}
use Rattle.cell_reads.proofs.Adding.{left_turn, left_end}
use Rattle.cell_reads.proofs.Runs.{nets-first, nets-none, few_of_net}
use Rattle.cell_reads.proofs.Reader.nets_edges.Goals as goal

pub loop-i-preserved : goal.loop-i-preserved
loop-i-preserved c =
    let args = c.args in
    let past = past_in args.self.now.table.now in
    let list = args.self.now.list.now in
    let here = args.start + c.loop-i.i in
    let left = args.n - c.loop-i.i in
    let adds = c.net_edge-total.ensures (omega arith) in
    let few = few_of_net past (net_in list here) in
    let fewer : args.n - (c.loop-i.i + 1) ≡ left - 1 = omega arith in
    let next : args.start + (c.loop-i.i + 1) ≡ here + 1 = omega arith in (
      omega (arith, adds.many, few),
      rw (fewer, next) (left_turn (nets-first past list left here (omega arith)) c.loop-i.invariant.1 adds),
    )

pub returns : goal.returns
returns c =
    let args = c.args in
    left_end (nets-none (past_in args.self.now.table.now) args.self.now.list.now _ _ (omega arith)) c.loop-i.invariant.1
