-- `replaced_nets::replace_pairs` meets its contract: along the net replacements (`AlongPairs`), each turn does the
-- steps of one pair, and at the last word none is left. Assumes nothing.
use mathlib.Core.Path.{◌≡◌}
use Prim.Native.Nat.{ℕ, ◌-◌}
use lib.ListN.{length}
use Rattle.cell.specs.Design.{Design}
use Rattle.design_list.specs.Read.{read, accepted}
use Rattle.slots.specs.Tells.{Tells}
use Rattle.replaced_nets.proofs.Pairs.{AlongPairs}
use Rattle.replaced_nets.proofs.replace_pairs.Given as goal

abbrev pub invariant-loop-at : goal.invariant-loop-at
invariant-loop-at l =
    (length l.calls ≡ length l.initial.calls) × (length l.names ≡ length l.initial.names) × (length l.marks ≡ length l.initial.marks)
    × (length l.eqs ≡ length l.initial.eqs)
    × ((d : Design) (replacements : ℕ) → read l.mode l.list ≡ accepted d replacements l.pairs → Tells d l.table
    → AlongPairs d l.list l.at l.initial.calls l.initial.names l.initial.marks l.initial.eqs l.initial.s l.calls l.names l.marks l.eqs l.s)

abbrev pub decreases-loop-at : goal.decreases-loop-at
decreases-loop-at l = length l.list - l.at
