-- The scan from here answers what the scan from the start does.
use Prim.Native.Nat.{◌+◌, ◌-◌}
use mathlib.Core.Path.{◌≡◌}
use Rattle.fields.specs.Field.{scan_many}
use Rattle.voids.specs.Marks.{is_void_in}
use Rattle.voids.specs.Voids.{void_at}
use Rattle.voids.proofs.voids_in.Given as goal

abbrev pub invariant-loop-at : goal.invariant-loop-at
invariant-loop-at l =
    scan_many (void_at l.list (is_void_in l.table l.base) l.clock) l.n l.start
    ≡ scan_many (void_at l.list (is_void_in l.table l.base) l.clock) (l.start + l.n - l.at) l.at
