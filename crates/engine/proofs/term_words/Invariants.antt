-- `engine::term_words` meets its contract: after i turns the references of the first i terms are written. Assumes
-- nothing.
use mathlib.Core.Path.{◌≡◌}
use mathlib.Core.List.{map}
use lib.ListN.{length, take}
use Rattle.logic.specs.Word.{term_word}
use Rattle.engine.specs.Emit.{Wrote}
use Rattle.engine.proofs.term_words.Given as goal

abbrev pub invariant-loop-term : goal.invariant-loop-term
invariant-loop-term l =
    (length l.calls ≡ length l.initial.calls) × Wrote l.initial.calls l.at (map term_word (take l.term-index l.terms)) l.calls l.next
