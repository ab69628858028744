-- `asked::bad_mark` meets its contract. The loop's invariant: the first mark that does not stand is the first from
-- `slot` on. Assumes nothing.
use mathlib.Core.Path.{◌≡◌}
use lib.ListN.{drop}
use Rattle.engine.specs.Encode.{decode}
use Rattle.asked.specs.Marks.{declared_by, stands_by, bad_by}
use Rattle.asked.proofs.bad_mark.Given as goal

abbrev pub invariant-loop-slot : goal.invariant-loop-slot
invariant-loop-slot l =
    bad_by (stands_by (declared_by l.names (decode l.calls))) 0 l.recorded
    ≡ bad_by (stands_by (declared_by l.names (decode l.calls))) l.slot (drop l.slot l.recorded)
