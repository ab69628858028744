-- `operands::constants` meets its contract. The invariant: the numbers are those of the constants from i on, which
-- leave room for one more. Assumes nothing.
use mathlib.Core.Path.{◌≡◌}
use Prim.Native.Nat.{◌+◌, ◌-◌, ◌≤◌, min}
use Rattle.logic.specs.Trit.{x_of, y_of}
use Rattle.operands.specs.Words.{packed}
use Rattle.operands.proofs.constants.Given as goal

abbrev pub invariant-loop-i : goal.invariant-loop-i
invariant-loop-i l =
    (l.i ≤ min l.n 64) × (l.x ≡ packed x_of l.words (min l.n 64 - l.i) (l.at + l.i)) × (l.y ≡ packed y_of l.words (min l.n 64 - l.i) (l.at + l.i))
