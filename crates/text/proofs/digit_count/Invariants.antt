-- `text::digit_count` meets its contract. The loop's invariant: the digits counted and those of what is left are the
-- number's; a machine word has at most 20. The measure is what is left. Assumes nothing.
use Prim.Native.Nat.{◌≤◌, ◌+◌}
use mathlib.Core.Path.{◌≡◌}
use lib.ListN.{length}
use Rattle.text.specs.Bytes.{decimal}
use Rattle.text.proofs.digit_count.Given as goal

abbrev pub invariant-loop-left : goal.invariant-loop-left
invariant-loop-left l = (length (decimal l.n) ≡ l.count + length (decimal l.left)) × (length (decimal l.n) ≤ 20)

abbrev pub decreases-loop-left : goal.decreases-loop-left
decreases-loop-left l = l.left
