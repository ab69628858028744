-- `cell_reads::Reader::patterns_edges` meets its contract. The invariant: the reads of the patterns passed are added, and the
-- patterns left complete those asked for. Assumes nothing.
use Prim.Native.Nat.{◌+◌, ◌-◌, ◌*◌, ◌≤◌}
use Rattle.rules.specs.Reads.{current_nets, compared_nets}
use Rattle.cell_reader.specs.Parse.{nets_in, patterns_in}
use Rattle.nets.specs.Reads.{past_in}
use Rattle.cell_reads.specs.Reads.{Few}
use Rattle.cell_reads.proofs.Adding.{Left}
use Rattle.cell_reads.proofs.Reader.patterns_edges.Given as goal

abbrev pub invariant-loop : goal.invariant-loop
invariant-loop l =
    (l.total ≤ l.count + l.counter * 4032) × (l.at ≤ l.start + l.counter * 4033)
    × (Few (patterns_in l.self.list.now l.n l.k l.start) → Few (patterns_in l.self.list.now l.n (l.k - l.counter) l.at)
    × Left l.self.table.now l.self.node (current_nets (past_in l.self.table.now) (compared_nets (nets_in l.self.list.now l.n l.value) (patterns_in l.self.list.now l.n l.k l.start)))
    l.initial.edges l.count
    (current_nets (past_in l.self.table.now) (compared_nets (nets_in l.self.list.now l.n l.value) (patterns_in l.self.list.now l.n (l.k - l.counter) l.at)))
    l.edges l.total)
