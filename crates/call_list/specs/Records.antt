-- Document 01, "Words": a call record. Records by their number: the calls of the first of them.
use Rattle.std.specs.Prelude.{List, ℕ}
use Rattle.engine.specs.Call.{Call}
use Rattle.engine.specs.Encode.{calls_from}

-- The calls of the first records of a list.
abbrev pub first_calls : List ℕ → ℕ → List Call
first_calls w records = calls_from records w 0
