-- `loop_walk::write_loop` meets its contract. The invariant: writing the rest of the walk from here gives what writing
-- all of it from the start does. Assumes nothing.
use Prim.Native.Nat.{◌-◌, ◌<◌}
use mathlib.Core.Path.{◌≡◌}
use lib.Seq.{sets}
use Rattle.logic.specs.Table.{tab}
use Rattle.loop_walk.specs.Steps.{steps}
use Rattle.loop_walk.proofs.write_loop.Given as goal

abbrev pub invariant-loop-m : goal.invariant-loop-m
invariant-loop-m l =
    (sets l.initial.slots 0 (tab l.length (steps l.next l.n l.start)) ≡ sets l.slots l.m (tab (l.length - l.m) (steps l.next l.n l.at)))
    × (l.at < 4096)
