-- Sums of sorts, none above 64.
use mathlib.Core.Path.{◌≡◌}
use Prim.Native.Nat.{ℕ, ◌+◌, ◌≤◌}
use native.Mathlib.Omega.{arith}
use Rattle.engine.specs.Structure.{capped}

pub sum-start : (s : ℕ) → s ≤ 65 → capped (0 + s) ≡ s
sum-start s h = omega arith

pub sum-given : (t s : ℕ) → capped (t + capped s) ≡ capped (t + s)
sum-given t s = omega arith

pub sum-joined : (t a b : ℕ) → capped (capped (t + b) + a) ≡ capped (t + capped (a + b))
sum-joined t a b = omega arith
