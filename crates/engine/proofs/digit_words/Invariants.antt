-- `engine::digit_words` meets its contract: what is written, with the digits left of the rest, are the digits of the
-- number. Assumes nothing.
use Prim.Native.Nat.{◌-◌, ◌<◌, ◌^◌}
use mathlib.Core.Path.{◌≡◌}
use mathlib.Core.List.{List, ◌++◌, map}
use Prim.Native.Nat.{ℕ}
use lib.ListN.{length}
use Rattle.logic.specs.Word.{number_word}
use Rattle.engine.specs.Encode.{digits}
use Rattle.engine.specs.Emit.{Wrote}
use Rattle.engine.proofs.digit_words.Given as goal

abbrev pub invariant-loop : goal.invariant-loop
invariant-loop l =
    (l.rest < 2 ^ 64) × (length l.calls ≡ length l.initial.calls) × ((written : List ℕ) × Wrote l.initial.calls l.at written l.calls l.next
    × (written ++ map number_word (digits (l.n - l.counter) l.rest) ≡ map number_word (digits l.n l.value)))
