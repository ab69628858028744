-- `answer::scan_entries` meets its contract. The loop's invariant: reading goes on from `slot` and `at` as it does from
-- the start. Assumes nothing.
use mathlib.Core.Path.{◌≡◌}
use lib.ListN.{drop}
use Rattle.tokens.specs.Place.{tokens_from}
use Rattle.answer.specs.Entries.{entries, forget}
use Rattle.answer.proofs.scan_entries.Given as goal

abbrev pub invariant-loop-slot : goal.invariant-loop-slot
invariant-loop-slot l = forget (entries 0 l.recorded (tokens_from l.text l.start))
    ≡ forget (entries l.slot (drop l.slot l.recorded) (tokens_from l.text l.at))
