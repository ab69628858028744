-- `little_endian::load` meets its contract. The loop's invariant: the first i words are stored. Assumes nothing.
use mathlib.Core.Path.{◌≡◌}
use lib.Seq.{sets}
use Rattle.little_endian.specs.Words.{first_words}
use Rattle.little_endian.proofs.load.Given as goal

abbrev pub invariant-loop-i : goal.invariant-loop-i
invariant-loop-i l = l.words ≡ sets l.initial.words 0 (first_words l.input l.i)
