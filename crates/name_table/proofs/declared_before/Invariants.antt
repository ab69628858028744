-- `name_table::declared_before` meets its contract: from each record on, the scan answers what it answers from the
-- first. The measure is how many words are left. Assumes nothing.
use Prim.Native.Nat.{ℕ, ◌-◌, ◌≤◌, min}
use mathlib.Core.Path.{◌≡◌}
use lib.ListN.{length}
use Rattle.engine.specs.Structure.{declared_from}
use Rattle.name_table.proofs.declared_before.Given as goal

abbrev pub invariant-loop-at : goal.invariant-loop-at
invariant-loop-at l =
    (n : ℕ) × (length l.calls - l.at ≤ n)
    × (declared_from (length l.calls) l.calls 0 (min l.end (length l.calls)) l.letter l.index l.suffix
    ≡ declared_from n l.calls l.at (min l.end (length l.calls)) l.letter l.index l.suffix)

abbrev pub decreases-loop-at : goal.decreases-loop-at
decreases-loop-at l = length l.calls - l.at
