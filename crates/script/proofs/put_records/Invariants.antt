-- `script::put_records` meets its contract. The loop's invariant: the walk has come to the cursor, the ring has the
-- sorts of the latest terms, and the lines of the records so far are written. The measure is what is left of the list.
-- Assumes nothing.
use Prim.Native.Nat.{ℕ, ◌-◌}
use mathlib.Core.Path.{◌≡◌}
use mathlib.Core.List.{[]}
use lib.ListN.{length}
use Rattle.call_list.specs.Records.{first_calls}
use Rattle.engine.specs.Emit.{Wrote}
use Rattle.script.specs.Text.{lines}
use Rattle.script.specs.Walk.{HasTables}
use Rattle.script.proofs.WalkLaws.{Walked}
use Rattle.script.proofs.put_records.Given as goal

abbrev pub invariant-loop-seen : goal.invariant-loop-seen
invariant-loop-seen l =
    (has : HasTables l.gap l.calls l.places l.sorts) × (length l.text ≡ length l.initial.text) × (length l.recent ≡ length l.initial.recent)
    × (records : ℕ) × Walked l.calls l.sorts l.recent has.leaving records l.seen
    × Wrote l.initial.text l.start (lines [] (first_calls l.calls records)) l.text l.at

abbrev pub decreases-loop-seen : goal.decreases-loop-seen
decreases-loop-seen l = length l.calls - l.seen.at
