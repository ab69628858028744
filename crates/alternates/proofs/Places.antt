-- The places of the alternates of a pattern. Assumes nothing.
use mathlib.Core.Path.{◌≡◌}
use Prim.Native.Nat.{ℕ, ◌+◌, ◌*◌, ◌<◌, ◌≤◌, ◌^◌, min}
use native.Mathlib.Nat.{mul-le-mul, mul-le-mul_right}
use native.Mathlib.Omega.{arith}

-- Two numbers of 32 bits have a product of 64, with room for two more.
pub product-fits : (i n : ℕ) → i < 2 ^ 32 → n < 2 ^ 32 → i * n ≤ 18446744065119617025
product-fits i n i-low n-low =
    let i-last : i ≤ 4294967295 = omega arith in
    let n-last : n ≤ 4294967295 = omega arith in mul-le-mul i-last n-last

-- The place of an alternate lies before that of the next pattern.
pub alternate-low : (at i m n : ℕ) → i < m → at + 1 + m * n < 2 ^ 32 → min (at + 1 + i * n) 4294967295 ≡ at + 1 + i * n
alternate-low at i m n low room =
    let before : i ≤ m = omega arith in
    let less : i * n ≤ m * n = mul-le-mul_right n before in omega arith
