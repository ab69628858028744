-- `vectors::tv_concat` meets its contract. Invariant: the elements from i on are joined, as the model joins them, to a
-- vector of n - i trits. It holds of the last element alone, and each turn is one step of the model (`tv-from_turn`).
-- Assumes nothing.
use mathlib.Core.Path.{◌≡◌}
use Prim.Native.Nat.{◌-◌, ◌<◌}
use lib.ListN.{length}
use Rattle.smt.specs.Builder.{tv_concat_on}
use Rattle.builder.specs.Ran.{MakesTrits}
use Rattle.vectors.specs.Elements.{element_at}
use Rattle.vectors.proofs.Concat.{from}
use Rattle.vectors.proofs.tv_concat.Given as goal

abbrev pub invariant-loop-i : goal.invariant-loop-i
invariant-loop-i l =
    (l.i < l.n) × (length l.calls ≡ length l.initial.calls)
    × MakesTrits (from tv_concat_on (element_at l.terms) l.n l.i) (l.n - l.i) l.initial.calls l.initial.result.counts l.calls l.result
