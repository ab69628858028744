-- `stores::copy` meets its contract. The invariant: storing the rest from here gives what storing all from the start
-- does. Assumes nothing.
use Prim.Native.Nat.{◌-◌, ◌≤◌}
use mathlib.Core.Path.{◌≡◌}
use lib.ListN.{length, take, drop}
use lib.Seq.{sets}
use Rattle.stores.proofs.copy.Given as goal

abbrev pub invariant-loop-i : goal.invariant-loop-i
invariant-loop-i l =
    (l.n ≤ length l.words → sets l.initial.out 0 (take l.n l.words) ≡ sets l.out l.i (drop l.i (take l.n l.words))) × (length l.out ≡ length l.initial.out)
