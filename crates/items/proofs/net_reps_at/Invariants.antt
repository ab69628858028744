-- Reading on from here answers what reading from the start does.
use mathlib.Core.Path.{◌≡◌}
use Prim.Native.Nat.{◌-◌}
use Rattle.items.specs.Items.{net_reps_from}
use Rattle.items.proofs.net_reps_at.Given as goal

abbrev pub invariant-loop : goal.invariant-loop
invariant-loop l =
    (net_reps_from l.list l.total l.k 0 l.start).scan
    ≡ (net_reps_from l.list l.total (l.k - l.counter) l.least.0 l.at).scan
