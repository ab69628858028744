-- `fields::patterns_at` meets its contract. Each loop's invariant: the scan of what is left, from here, answers what
-- the whole scan does; its measure is what it counts down. The label is left at a word that is no constant, where the
-- scan of what is left answers fault 8. Assumes nothing.
use mathlib.Core.Path.{◌≡◌}
use Rattle.fields.specs.Pattern.{patterns_at}
use Rattle.fields.proofs.Laws.{in_pattern, in_alternate}
use Rattle.fields.proofs.patterns_at.Given as goal

abbrev pub invariant-loop-word : goal.invariant-loop-word
invariant-loop-word l =
    patterns_at l.list l.n l.end l.k l.start ≡ in_alternate l.list l.n l.end l.pattern l.alternate l.word l.at

abbrev pub decreases-loop-word : goal.decreases-loop-word
decreases-loop-word l = l.word

abbrev pub invariant-loop-alternate : goal.invariant-loop-alternate
invariant-loop-alternate l =
    patterns_at l.list l.n l.end l.k l.start ≡ in_pattern l.list l.n l.end l.pattern l.alternate l.at

abbrev pub decreases-loop-alternate : goal.decreases-loop-alternate
decreases-loop-alternate l = l.alternate

abbrev pub invariant-patterns : goal.invariant-patterns
invariant-patterns l = patterns_at l.list l.n l.end l.k l.start
    ≡ patterns_at l.list l.n l.end l.pattern l.at

abbrev pub decreases-patterns : goal.decreases-patterns
decreases-patterns l = l.pattern
