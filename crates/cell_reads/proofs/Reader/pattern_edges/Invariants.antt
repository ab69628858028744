-- `cell_reads::Reader::pattern_edges` meets its contract. The invariant: the reads of the alternates passed are added, and the
-- alternates left complete the pattern. Assumes nothing.
use Prim.Native.Nat.{◌+◌, ◌-◌, ◌*◌, ◌≤◌}
use Rattle.logic.specs.Table.{tab}
use Rattle.rules.specs.Reads.{current_nets, compared_by_any}
use Rattle.cell_reader.specs.Parse.{nets_in, trits_in}
use Rattle.nets.specs.Reads.{past_in}
use Rattle.cell_reads.proofs.Adding.{Left}
use Rattle.cell_reads.proofs.Reader.pattern_edges.Given as goal

abbrev pub invariant-loop : goal.invariant-loop
invariant-loop l =
    (l.total ≤ l.count + l.counter * 63) × (l.at ≤ l.start + l.counter * 63)
    × Left l.self.table.now l.self.node (current_nets (past_in l.self.table.now) (compared_by_any (nets_in l.self.list.now l.n l.value)
    (tab l.alternates (λ i. trits_in l.self.list.now l.n (l.start + i * l.n))))) l.initial.edges l.count
    (current_nets (past_in l.self.table.now)
    (compared_by_any (nets_in l.self.list.now l.n l.value) (tab (l.alternates - l.counter) (λ i. trits_in l.self.list.now l.n (l.at + i * l.n)))))
    l.edges l.total
