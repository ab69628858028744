-- Laws of the definitions of Operations.
use Prim.Native.Nat.{ℕ, zero, suc, ◌≤◌}
use mathlib.Core.Path.{◌≡◌, refl, sym}
use native.Mathlib.Omega.{arith}
use lib.ListN.{get_or-eq_default}
use Rattle.engine.specs.WellFormed.{declares}
use Rattle.engine.specs.Encode as o
use Rattle.call_list.specs.Operations.{is_declare}

-- A number that is none of 0, 1, .. k - 1.
abbrev pub Avoids : ℕ → ℕ → Type 0
Avoids zero n = Unit {0}
Avoids (suc k) n = Avoids k n × (n ≡ k → ⊥)

avoids_le : (k n : ℕ) → Avoids k n → k ≤ n
avoids_le zero n h = omega arith
avoids_le (suc k) n h = let z = avoids_le k n h.0 in let d = h.1 in omega arith

-- Only the numbers of the list are operations.
pub no_operation : (n : ℕ) → Avoids 28 n → o.unknown ≡ o.op_of n
unfolding o.op_of
no_operation n h = sym (get_or-eq_default o.operations o.unknown (avoids_le 28 n h))

pub declares_of : (op : o.Op) (n : ℕ) (p : ℕ → ℕ) → declares (o.call_of op n p) ≡ is_declare op
declares_of (o.term op) n p = refl
declares_of o.declare n p = refl
declares_of o.assert n p = refl
declares_of o.check n p = refl
declares_of o.unknown n p = refl
