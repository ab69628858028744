-- `tokens::skip_white` meets its contract. The loop's invariant: the tokens from `at` are those from `start`. Assumes
-- nothing.
use mathlib.Core.Path.{◌≡◌}
use Rattle.tokens.specs.Place.{tokens_from}
use Rattle.tokens.proofs.skip_white.Given as goal

abbrev pub invariant-loop-at : goal.invariant-loop-at
invariant-loop-at l = tokens_from l.text l.start ≡ tokens_from l.text l.at
