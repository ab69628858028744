-- `pieces::put_arguments` meets its contract. The loop's invariant: the arguments before `i` are written, and the place
-- is the one after them. Assumes nothing.
use mathlib.Core.Path.{◌≡◌}
use lib.ListN.{length}
use Rattle.engine.specs.Emit.{Wrote}
use Rattle.pieces.specs.Text.{spaced}
use Rattle.pieces.specs.Arguments.{argument_texts}
use Rattle.pieces.proofs.put_arguments.Given as goal

abbrev pub invariant-loop-i : goal.invariant-loop-i
invariant-loop-i l =
    (length l.text ≡ length l.initial.text)
    × Wrote l.initial.text l.start (spaced (argument_texts l.made.places.now l.made.gap l.made.calls.now l.made.terms l.head l.i)) l.text l.at
