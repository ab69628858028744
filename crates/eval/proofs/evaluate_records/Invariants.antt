-- `eval::evaluate_records` meets its contract: between two records what is written and counted is that of the calls so
-- far. The measure is how many words are left. Assumes nothing.
use Prim.Native.Nat.{◌-◌}
use mathlib.Core.Path.{◌≡◌}
use lib.ListN.{length}
use Rattle.eval.proofs.RecordLaws.{EvaluatedTo}
use Rattle.eval.proofs.evaluate_records.Given as goal

abbrev pub invariant-loop-done : goal.invariant-loop-done
invariant-loop-done l =
    (length l.values ≡ length l.initial.values) × (length l.recent ≡ length l.initial.recent)
    × EvaluatedTo l.gap l.calls l.bits l.initial.values l.sorts l.places l.values l.recent l.done l.falses

abbrev pub decreases-loop-done : goal.decreases-loop-done
decreases-loop-done l = length l.calls - l.done.at
