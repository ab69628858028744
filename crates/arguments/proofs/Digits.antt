-- What number j of a literal lies below, by what its width leaves: nothing, less than 16 bits, or 16 and more.
use Prim.Native.Nat.{ℕ, ◌-◌, ◌*◌, ◌%◌, ◌^◌, ◌≤◌, ◌<◌, min}
use mathlib.Core.Path.{◌≡◌, ◌∙◌}
use native.Mathlib.Nat.{one-mul}
use native.Mathlib.Omega.{arith}
use lib.Pow.{shl_exact}

module _ (width j : ℕ) where
  pub bound-none : width ≤ 16 * j → 1 ≡ 2 ^ min 16 (width - 16 * j)
  bound-none h = let e : min 16 (width - 16 * j) ≡ 0 = omega arith in rw e

  pub bound_some : width - 16 * j < 16 → 1 * 2 ^ (width - 16 * j) % 4294967296 ≡ 2 ^ min 16 (width - 16 * j)
  bound_some h =
      let e : min 16 (width - 16 * j) ≡ width - 16 * j = omega arith in
      rw e (shl_exact {a = 1} 1 (width - 16 * j) 32 (omega arith) (omega arith) ∙ one-mul (2 ^ (width - 16 * j)))

  pub bound_all : 16 ≤ width - 16 * j → 65536 ≡ 2 ^ min 16 (width - 16 * j)
  bound_all h = let e : min 16 (width - 16 * j) ≡ 16 = omega arith in rw e
