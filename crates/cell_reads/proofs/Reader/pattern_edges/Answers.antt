-- `cell_reads::Reader::pattern_edges` meets its contract. The invariant: the reads of the alternates passed are added, and the
-- alternates left complete the pattern. Assumes nothing.
use mathlib.Core.Path.{◌≡◌}
use Prim.Native.Nat.{◌+◌, ◌-◌}
use native.Mathlib.Omega.{arith}
use Rattle.cell_reader.specs.Parse.{nets_in}
use Rattle.nets.specs.Reads.{past_in}
use Rattle.cell_reads.proofs.Adding.{left_turn, left_end}
use Rattle.cell_reads.proofs.Compared.{alternate-first, alternate-none, few_of_alternate}
use Rattle.cell_reads.proofs.Reader.pattern_edges.Goals as goal

pub loop-preserved : goal.loop-preserved
loop-preserved c =
    let args = c.args in
    let past = past_in args.self.now.table.now in
    let list = args.self.now.list.now in
    let value = nets_in list args.n args.value in
    let left = args.alternates - c.loop.counter in
    let adds = c.alternate_edges-total.ensures in
    let few = few_of_alternate past list value args.n c.loop.at in
    let small = c.requires.0 in
    let fewer : args.alternates - (c.loop.counter + 1) ≡ left - 1 = omega arith in (
      omega (arith, adds.many, few),
      omega arith,
      rw fewer
          (left_turn (alternate-first past list value args.n left c.loop.at (omega arith)) c.loop.invariant.2 adds),
    )

pub returns : goal.returns
returns c =
    let args = c.args in
    left_end (alternate-none (past_in args.self.now.table.now) args.self.now.list.now _ _ _ _ (omega arith)) c.loop.invariant.2
