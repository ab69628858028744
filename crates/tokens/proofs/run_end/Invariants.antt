-- `tokens::run_end` meets its contract. The loop's invariant: the run that starts at `at` ends where the one from
-- `start` does, and `at` lies before the end or is `start`. Assumes nothing.
use mathlib.Core.Path.{◌≡◌}
use Prim.Native.Nat.{max, ◌≤◌}
use lib.ListN.{length}
use Rattle.tokens.specs.Place.{run_end}
use Rattle.tokens.proofs.run_end.Given as goal

abbrev pub invariant-loop-at : goal.invariant-loop-at
invariant-loop-at l = (run_end l.text l.start ≡ run_end l.text l.at) × (l.at ≤ max l.start (length l.text))
