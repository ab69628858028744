-- `asked::first_asked` meets its contract. The loop's invariant: the marks before `slot` ask for nothing.
-- Assumes nothing.
use mathlib.Core.Path.{◌≡◌}
use lib.ListN.{drop}
use Rattle.text.specs.Names.{asked_from}
use Rattle.asked.proofs.first_asked.Given as goal

abbrev pub invariant-loop-slot : goal.invariant-loop-slot
invariant-loop-slot l = asked_from 0 l.recorded ≡ asked_from l.slot (drop l.slot l.recorded)
