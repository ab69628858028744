-- `values::net_terms` meets its contract: after i turns the terms have the first i elements, and if the rest of the
-- nets is read from here, all of them were read from the start; each turn reads one net more.
-- Assumes nothing.
use mathlib.Core.Path.{◌≡◌}
use Prim.Native.Nat.{◌≤◌, ◌*◌, ◌-◌}
use lib.ListN.{length}
use Rattle.cell_reader.specs.Parse.{nets_in}
use Rattle.nets.specs.Reads.{reader}
use Rattle.vectors.specs.Elements.{elements}
use Rattle.values.proofs.Collect.{Left}
use Rattle.values.proofs.net_terms.Given as goal

abbrev pub invariant-loop-i : goal.invariant-loop-i
invariant-loop-i l =
    (l.i ≤ l.n) × (length l.calls ≡ length l.initial.calls) × (length l.names ≡ length l.initial.names) × (length l.marks ≡ length l.initial.marks)
    × (length l.terms ≡ length l.initial.terms)
    × (2 * l.n ≤ length l.initial.terms → Left (reader l.reading l.table) (nets_in l.words l.n l.at) l.i
    l.initial.calls l.initial.names l.initial.marks l.initial.counts l.calls l.names l.marks l.counts (elements l.terms l.i))
