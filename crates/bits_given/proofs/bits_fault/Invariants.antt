-- `bits_given::bits_fault` meets its contract: between two records the fault is what the records left say. The measure
-- is how many words are left. Assumes nothing.
use Prim.Native.Nat.{◌-◌}
use lib.ListN.{length}
use Rattle.bits_given.proofs.GivenLaws.{BitsTo}
use Rattle.bits_given.proofs.bits_fault.Given as goal

abbrev pub invariant-loop-seen : goal.invariant-loop-seen
invariant-loop-seen l = BitsTo l.calls l.bits l.seen

abbrev pub decreases-loop-seen : goal.decreases-loop-seen
decreases-loop-seen l = length l.calls - l.seen.at
