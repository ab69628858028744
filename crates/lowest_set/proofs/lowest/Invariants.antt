-- `lowest_set::lowest` meets its contract. The invariant: p is not 0 and every leaf left of those under it is. A leaf
-- that is reached so is that of the lowest number. The measure is what is left up to 8,192. Assumes nothing.
use mathlib.Core.Bool.{Bool}
use Prim.Native.Nat.{ℕ, ◌-◌, ◌<◌}
use Rattle.lowest_set.specs.Tree.{Holds}
use Rattle.lowest_set.proofs.Finding.{Reached}
use Rattle.lowest_set.proofs.lowest.Given as goal

abbrev pub invariant-loop-p : goal.invariant-loop-p
invariant-loop-p l = (0 < l.p) × (l.p < 8192) × ((members : ℕ → Bool) → Holds l.tree members → Reached l.tree l.p)

abbrev pub decreases-loop-p : goal.decreases-loop-p
decreases-loop-p l = 8192 - l.p
