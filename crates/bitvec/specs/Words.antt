-- SMT-LIB, QF_BV. Bit vectors of width 1 to 64 as numbers of a u64: what the functions of this crate promise. An
-- operand x counts modulo 2 ^ width, as nat2bv width x; at a width outside 1 to 64 every answer is 0, or false.
use Rattle.std.specs.Prelude.{ℕ, ◌+◌, Bool, cond, ◌&&◌, nat_le, nat_lt}
use Rattle.bitvec.specs.Bits.{Bits, bv2nat, nat2bv}
use Rattle.bitvec.specs.Ops as bv

-- The widths that a u64 holds.
unfoldable pub is_width : ℕ → Bool
is_width w = nat_le 1 w && nat_le w 64

-- The number of a vector that an operation gives at a width.
unfoldable pub at_width : ℕ → Bits → ℕ
at_width w s = cond (is_width w) (bv2nat s) 0

-- The answer of a comparison at a width.
unfoldable pub holds_at : ℕ → Bool → Bool
holds_at w holds = is_width w && holds

-- The m bits of s above the n bits of t: both have bits, and the whole has at most 64.
unfoldable pub concat_at : ℕ → ℕ → ℕ → ℕ → ℕ
concat_at m s n t = cond (nat_le 1 m && nat_le 1 n && nat_le (m + n) 64) (bv2nat (bv.concat (nat2bv m s) (nat2bv n t))) 0

-- Bits j to i of a vector of width w: w is at most 64, i lies inside, and j is not above i.
unfoldable pub extract_at : ℕ → ℕ → ℕ → ℕ → ℕ
extract_at w i j s = cond (nat_le w 64 && nat_lt i w && nat_le j i) (bv2nat (bv.extract i j (nat2bv w s))) 0
