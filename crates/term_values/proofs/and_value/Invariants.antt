-- `term_values::and_value` meets its contract: from each argument on, the scan finds what it finds from the first.
-- Assumes nothing.
use Prim.Native.Nat.{◌-◌}
use mathlib.Core.Path.{◌≡◌}
use Rattle.engine.specs.WellFormed.{first_failing}
use Rattle.term_values.proofs.RecordsLaws.{is_one}
use Rattle.term_values.proofs.and_value.Given as goal

abbrev pub invariant-loop-i : goal.invariant-loop-i
invariant-loop-i l =
    first_failing (is_one l.values l.calls l.at) 0 l.n ≡ first_failing (is_one l.values l.calls l.at) l.i (l.n - l.i)
