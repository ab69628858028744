-- Document 02, change 2: the product from the highest bit down.
use Rattle.std.specs.Prelude.{ℕ, zero, suc, ◌+◌, ◌-◌, ◌*◌, ◌/◌, ◌%◌, ◌^◌, cond}
use Rattle.bitvec.specs.Bits.{odd}

-- The sum after the top j bits of b, at width w: each bit doubles the sum and, where it is 1, adds a.
unfoldable pub partial : ℕ → ℕ → ℕ → ℕ → ℕ
partial a b w zero = 0
partial a b w (suc j) = (2 * partial a b w j + cond (odd (b / 2 ^ (w - 1 - j))) a 0) % 2 ^ w

-- The number that the top j bits of b form, at width w.
unfoldable pub top_bits : ℕ → ℕ → ℕ → ℕ
top_bits b w j = b % 2 ^ w / 2 ^ (w - j)
