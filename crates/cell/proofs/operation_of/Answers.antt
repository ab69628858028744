-- `cell::operation_of` meets its contract. Each arm is the table at its number; a number that is none of them is past
-- the table's end. Assumes nothing.
use mathlib.Core.Path.{◌≡◌, sym}
use mathlib.Core.List.{map}
use Prim.Native.Nat.{ℕ, zero, suc, ◌≤◌}
use native.Mathlib.Omega.{arith}
use lib.ListN.{length, get_or-eq_default}
use Rattle.std.specs.Prelude.{Some, None}
use Rattle.cell.specs.Operation.{operations}
use Rattle.cell.proofs.operation_of.Goals as goal

-- A number that is none of 0, 1, .. k - 1.
abbrev Avoids : ℕ → ℕ → Type 0
Avoids zero n = Unit {0}
Avoids (suc k) n = Avoids k n × (n ≡ k → ⊥)

avoids_le : (k n : ℕ) → Avoids k n → k ≤ n
avoids_le zero n h = omega arith
avoids_le (suc k) n h = let low = avoids_le k n h.0 in let other = h.1 in omega arith

pub returns-in_default : goal.returns-in_default
returns-in_default c =
    let number = c.args.number in
    sym (get_or-eq_default (map Some operations) None (avoids_le (length operations) number c.in_default.in_default-own.rest))
