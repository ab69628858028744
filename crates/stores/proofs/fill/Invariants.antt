-- `stores::fill` meets its contract. The invariant: storing the rest from here gives what storing all from the start
-- does. Assumes nothing.
use Prim.Native.Nat.{◌-◌}
use mathlib.Core.Path.{◌≡◌}
use lib.ListN.{length, replicate}
use lib.Seq.{sets}
use Rattle.stores.proofs.fill.Given as goal

abbrev pub invariant-loop-at : goal.invariant-loop-at
invariant-loop-at l =
    (sets l.initial.words l.start (replicate (l.end - l.start) l.word) ≡ sets l.words l.at (replicate (l.end - l.at) l.word))
    × (length l.words ≡ length l.initial.words)
