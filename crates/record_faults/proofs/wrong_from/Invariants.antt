-- `record_faults::wrong_from` meets its contract: from each argument on, the scan finds what it finds from the first;
-- the word before and its sort are kept from turn to turn. Assumes nothing.
use Prim.Native.Nat.{◌+◌, ◌-◌}
use mathlib.Core.Path.{◌≡◌}
use lib.ListN.{get_or}
use Rattle.engine.specs.WellFormed.{first_failing}
use Rattle.record_faults.specs.Faults.{word_sort, stands_by}
use Rattle.term_table.specs.Near.{sort_in}
use Rattle.record_faults.proofs.wrong_from.Given as goal

abbrev pub invariant-loop-i : goal.invariant-loop-i
invariant-loop-i l =
    (l.before ≡ get_or l.tables.calls.now (l.at + l.i) 0)
    × (l.sort_before ≡ word_sort (sort_in l.tables l.terms) l.terms l.before)
    × (first_failing (stands_by (sort_in l.tables l.terms) l.tables.calls.now l.terms l.at) 0 l.n
    ≡ first_failing (stands_by (sort_in l.tables l.terms) l.tables.calls.now l.terms l.at) l.i (l.n - l.i))
