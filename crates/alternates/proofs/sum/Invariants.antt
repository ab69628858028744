-- `alternates::sum` meets its contract. Invariant: the alternates below i are summed, and what the model does from i on
-- completes its whole run (`SumLeft`); each turn is one alternate, whose place is exact within the premise.
-- Assumes nothing.
use mathlib.Core.Path.{◌≡◌}
use Prim.Native.Nat.{◌≤◌, ◌<◌, ◌+◌, ◌*◌, ◌-◌, ◌^◌}
use lib.ListN.{length}
use Rattle.logic.specs.Table.{tab}
use Rattle.cell_reader.specs.Parse.{nets_in, trits_in}
use Rattle.builder.specs.Ran.{trits}
use Rattle.nets.specs.Reads.{past_in}
use Rattle.alternates.proofs.Loops.{SumLeft}
use Rattle.alternates.proofs.sum.Given as goal

abbrev pub invariant-loop-i : goal.invariant-loop-i
invariant-loop-i l =
    (l.i ≤ l.alternates) × (length l.calls ≡ length l.initial.calls) × (length l.names ≡ length l.initial.names) × (length l.marks ≡ length l.initial.marks)
    × (l.at + 1 + l.alternates * l.n < 2 ^ 32
    → SumLeft (past_in l.table) (nets_in l.fields l.n 3) (tab l.alternates (λ j. trits_in l.fields l.n (l.at + 1 + j * l.n)))
    (trits 1 l.initial.sum.value)
    l.initial.calls l.initial.names l.initial.marks l.initial.sum.counts l.i (trits 1 l.sum.value) l.calls l.names l.marks l.sum.counts)
