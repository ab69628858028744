-- `verify_lists::replay_all` is safe: no more lists are as stored than were read. Assumes nothing.
use Prim.Native.Nat.{◌≤◌}
use Rattle.verify_lists.proofs.replay_all.Given as goal

abbrev pub invariant-loop-number : goal.invariant-loop-number
invariant-loop-number l = l.same ≤ l.number
