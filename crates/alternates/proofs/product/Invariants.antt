-- `alternates::product` meets its contract. Invariant: the positions below `index` are compared, and what the model
-- does from `index` on completes its whole run (`ProductLeft`); each turn is one position.
-- Assumes nothing.
use mathlib.Core.Path.{◌≡◌}
use Prim.Native.Nat.{◌≤◌, ◌-◌}
use lib.ListN.{length}
use Rattle.cell_reader.specs.Parse.{nets_in, trits_in}
use Rattle.builder.specs.Ran.{trits}
use Rattle.nets.specs.Reads.{past_in}
use Rattle.alternates.proofs.Loops.{ProductLeft}
use Rattle.alternates.proofs.product.Given as goal

abbrev pub invariant-loop-index : goal.invariant-loop-index
invariant-loop-index l =
    (l.index ≤ l.n) × (length l.calls ≡ length l.initial.calls) × (length l.names ≡ length l.initial.names) × (length l.marks ≡ length l.initial.marks)
    × ProductLeft (past_in l.table) (nets_in l.fields l.n 3) (trits_in l.fields l.n l.at) (trits 1 l.initial.result.value)
    l.initial.calls l.initial.names l.initial.marks l.initial.result.counts
    l.index (trits 1 l.result.value) l.calls l.names l.marks l.result.counts
