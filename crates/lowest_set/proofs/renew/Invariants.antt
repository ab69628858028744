-- `lowest_set::renew` meets its contract. The invariant: the word at p alone may be wrong. Computing it again can make
-- only the word above it wrong, and above the root there is none. The measure is p. Assumes nothing.
use mathlib.Core.Path.{◌≡◌}
use mathlib.Core.Bool.{Bool}
use Prim.Native.Nat.{ℕ, ◌≤◌}
use lib.ListN.{length}
use Rattle.lowest_set.proofs.Changing.{Except}
use Rattle.lowest_set.proofs.renew.Given as goal

abbrev pub invariant-loop-p : goal.invariant-loop-p
invariant-loop-p l =
    (length l.tree ≡ length l.initial.tree) × (l.p ≤ l.initial.p)
    × ((members : ℕ → Bool) → Except l.initial.tree members l.initial.p → Except l.tree members l.p)

abbrev pub decreases-loop-p : goal.decreases-loop-p
decreases-loop-p l = l.p
