-- `checker::check_records` meets its contract: between two records the tables and counts are those of the calls so far,
-- and the answer from there is the answer. The measure is how many words are left. Assumes nothing.
use Prim.Native.Nat.{◌-◌}
use mathlib.Core.Path.{◌≡◌}
use lib.ListN.{length}
use Rattle.checker.proofs.CheckingLaws.{Checking}
use Rattle.checker.proofs.check_records.Given as goal

abbrev pub invariant-loop-seen : goal.invariant-loop-seen
invariant-loop-seen l =
    (length l.places ≡ length l.initial.places) × (length l.sorts ≡ length l.initial.sorts) × (length l.recent ≡ length l.initial.recent)
    × (length l.names ≡ length l.initial.names) × (length l.tops ≡ length l.initial.tops)
    × Checking l.gap l.calls l.places l.sorts l.recent l.names l.tops l.seen l.checked

abbrev pub decreases-loop-seen : goal.decreases-loop-seen
decreases-loop-seen l =
    length l.calls - l.seen.at
