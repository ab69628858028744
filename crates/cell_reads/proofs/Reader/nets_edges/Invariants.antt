-- `cell_reads::Reader::nets_edges` meets its contract. The invariant: the reads of the nets passed are added, and the nets left
-- complete the run. Assumes nothing.
use Prim.Native.Nat.{◌+◌, ◌-◌, ◌≤◌}
use Rattle.rules.specs.Reads.{current_nets}
use Rattle.cell_reader.specs.Parse.{nets_in}
use Rattle.nets.specs.Reads.{past_in}
use Rattle.cell_reads.proofs.Adding.{Left}
use Rattle.cell_reads.proofs.Reader.nets_edges.Given as goal

abbrev pub invariant-loop-i : goal.invariant-loop-i
invariant-loop-i l =
    (l.total ≤ l.count + l.i)
    × Left l.self.table.now l.self.node (current_nets (past_in l.self.table.now) (nets_in l.self.list.now l.n l.start)) l.initial.edges l.count
    (current_nets (past_in l.self.table.now) (nets_in l.self.list.now (l.n - l.i) (l.start + l.i))) l.edges l.total
