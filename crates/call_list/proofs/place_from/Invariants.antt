-- `call_list::place_from` meets its contract: from each record on, the scan finds the place that it finds from the
-- first. The measure is how many words are left. Assumes nothing.
use Prim.Native.Nat.{ℕ, ◌-◌, ◌≤◌}
use mathlib.Core.Path.{◌≡◌}
use lib.ListN.{length}
use Rattle.engine.specs.Structure.{term_place}
use Rattle.call_list.proofs.place_from.Given as goal

abbrev pub invariant-loop-at : goal.invariant-loop-at
invariant-loop-at l =
    (n : ℕ) × (length l.calls - l.at ≤ n) × (term_place (length l.calls) l.calls l.from l.left ≡ term_place n l.calls l.at l.more)

abbrev pub decreases-loop-at : goal.decreases-loop-at
decreases-loop-at l = length l.calls - l.at
