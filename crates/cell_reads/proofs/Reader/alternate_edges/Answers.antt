-- `cell_reads::Reader::alternate_edges` meets its contract. The invariant: the reads of the positions passed are added, and the
-- positions left complete the alternate. Assumes nothing.
use mathlib.Core.Path.{◌≡◌}
use Prim.Native.Nat.{◌+◌, ◌-◌}
use native.Mathlib.Omega.{arith}
use Rattle.cell_reader.specs.Parse.{net_in, trit_in}
use Rattle.nets.specs.Reads.{past_in}
use Rattle.cell_reads.proofs.Adding.{left_turn, left_end}
use Rattle.cell_reads.proofs.Compared.{position_first, position-none, few_of_position}
use Rattle.cell_reads.proofs.Reader.alternate_edges.Goals as goal

pub loop-i-preserved : goal.loop-i-preserved
loop-i-preserved c =
    let args = c.args in
    let past = past_in args.self.now.table.now in
    let list = args.self.now.list.now in
    let net = args.value + c.loop-i.i in
    let at = args.start + c.loop-i.i in
    let left = args.n - c.loop-i.i in
    let adds = c.position_edge-total.ensures (omega arith) in
    let few = few_of_position past list (net_in list net) (trit_in list at) in
    let fewer : args.n - (c.loop-i.i + 1) ≡ left - 1 = omega arith in
    let next-net : args.value + (c.loop-i.i + 1) ≡ net + 1 = omega arith in
    let next : args.start + (c.loop-i.i + 1) ≡ at + 1 = omega arith in (
      omega (arith, adds.many, few),
      rw (fewer, next-net, next)
          (left_turn (position_first past list left net at (omega arith)) c.loop-i.invariant.1 adds),
    )

pub returns : goal.returns
returns c =
    let args = c.args in
    left_end (position-none (past_in args.self.now.table.now) args.self.now.list.now _ _ _ (omega arith)) c.loop-i.invariant.1
