-- SMT-LIB 2.6, theory FixedSizeBitVectors: bit vectors and the two functions bv2nat and nat2bv by which it explains the
-- operations. A bit vector is the list of its bits, low first; its width is its length.
use Rattle.std.specs.Prelude.{ℕ, zero, suc, ◌+◌, ◌*◌, ◌/◌, ◌%◌, Bool, cond, List, [], ◌∷◌, ◌==◌}

abbrev pub Bits : Type 0
Bits = List Bool

-- The number of one bit.
abbrev pub bit : Bool → ℕ
bit b = cond b 1 0

-- The sum of bit i times 2 ^ i.
unfoldable pub bv2nat : Bits → ℕ
bv2nat [] = 0
bv2nat (b ∷ bs) = bit b + 2 * bv2nat bs

abbrev pub odd : ℕ → Bool
odd n = n % 2 == 1

-- The vector of width m whose number is n modulo 2 ^ m.
unfoldable pub nat2bv : ℕ → ℕ → Bits
nat2bv zero n = []
nat2bv (suc m) n = odd n ∷ nat2bv m (n / 2)
