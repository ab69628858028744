-- `adc::carry_x` meets its contract. Invariant: the carries of the positions below `index` are stored, and what the
-- model does from `index` on completes its whole run (`CarryLeft`); each turn is one position. After the loop the last
-- carry is stored once more. Assumes nothing.
use mathlib.Core.Path.{◌≡◌}
use mathlib.Core.List.{List}
use Prim.Native.Nat.{ℕ, ◌-◌, ◌<◌, ◌≤◌}
use lib.ListN.{length}
use Rattle.smt.specs.Prog.{bv}
use Rattle.builder.specs.Ran.{trits}
use Rattle.vectors.specs.Elements.{bit_elements}
use Rattle.adc.proofs.Loops.{CarryLeft}
use Rattle.adc.proofs.carry_x.Given as goal

abbrev pub invariant-loop-index : goal.invariant-loop-index
invariant-loop-index l =
    (l.index ≤ l.n) × (length l.calls ≡ length l.initial.calls) × (length l.xs ≡ length l.initial.xs)
    × (l.n < length l.initial.xs → (i : ℕ) (names marks : List ℕ)
    → CarryLeft (trits i l.a) (trits i l.b) l.n (bv l.initial.last.term.0 1) l.initial.calls l.initial.last.counts names marks
    l.index (bv l.last.term.0 1) (bit_elements l.xs l.index) l.calls l.last.counts)
