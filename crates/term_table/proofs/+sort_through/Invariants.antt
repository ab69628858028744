-- What is summed so far, with the sort of the term gone on with, is the sort of the term asked. Each step goes to an
-- earlier term, so the term's number is the measure of the loop and of the calls.
use Rattle.std.proofs.Common.{◌≡◌, ◌+◌, ◌≤◌}
use Rattle.engine.specs.Structure.{capped}
use Rattle.term_table.specs.Near.{sort_in}
use Rattle.term_table.proofs.+sort_through.Given as goal

abbrev pub decreases-sort_through : goal.decreases-sort_through
decreases-sort_through l = l.term

abbrev pub invariant-loop-s : goal.invariant-loop-s
invariant-loop-s l =
    (l.k ≤ l.term)
    × (capped (l.total + sort_in l.tables l.terms l.k)
    ≡ sort_in l.tables l.terms l.term)

abbrev pub decreases-loop-s : goal.decreases-loop-s
decreases-loop-s l = l.k
