-- `one_hot::first_match` meets its contract. Invariant: the patterns from `index` on are chosen from, and what the
-- model does below `index` completes its whole run (`MatchLeft`); each turn is one pattern.
-- Assumes nothing.
use mathlib.Core.Path.{◌≡◌}
use mathlib.Core.List.{List}
use Prim.Native.Nat.{ℕ, ◌-◌, ◌≤◌}
use lib.ListN.{length}
use Rattle.builder.specs.Ran.{trits}
use Rattle.one_hot.proofs.Loops.{MatchLeft}
use Rattle.one_hot.proofs.first_match.Given as goal

abbrev pub invariant-loop-index : goal.invariant-loop-index
invariant-loop-index l =
    (l.index ≤ l.k) × (length l.calls ≡ length l.initial.calls)
    × (l.k ≤ 64 → (i : ℕ) (names marks : List ℕ)
    → MatchLeft (trits i l.matches) l.k (trits l.k l.initial.result.value) l.initial.calls l.initial.result.counts names marks
    l.index (trits l.k l.result.value) l.calls l.result.counts)
