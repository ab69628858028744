-- `script::terms_in` meets its contract: the records up to the cursor make as many terms as it counts. The measure is
-- what is left of the list. Assumes nothing.
use Prim.Native.Nat.{ℕ, ◌-◌}
use lib.ListN.{length}
use Rattle.script.proofs.WalkLaws.{Passed}
use Rattle.script.proofs.terms_in.Given as goal

abbrev pub invariant-loop-seen : goal.invariant-loop-seen
invariant-loop-seen l = (records : ℕ) × Passed l.calls records l.seen

abbrev pub decreases-loop-seen : goal.decreases-loop-seen
decreases-loop-seen l = length l.calls - l.seen.at
