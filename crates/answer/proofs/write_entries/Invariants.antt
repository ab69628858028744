-- `answer::write_entries` meets its contract. The loop's invariant: what is left to write from `slot` on completes the
-- table. Assumes nothing.
use mathlib.Core.Path.{◌≡◌}
use lib.ListN.{drop}
use Rattle.engine.specs.Emit.{overwrite}
use Rattle.tokens.specs.Place.{tokens_from}
use Rattle.answer.specs.Entries.{entries_written}
use Rattle.answer.proofs.write_entries.Given as goal

abbrev pub invariant-loop-slot : goal.invariant-loop-slot
invariant-loop-slot l =
    overwrite l.initial.trits 0 (entries_written 0 l.recorded (tokens_from l.text l.start))
    ≡ overwrite l.trits l.slot (entries_written l.slot (drop l.slot l.recorded) (tokens_from l.text l.at))
