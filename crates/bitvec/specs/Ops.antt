-- SMT-LIB 2.6, theory FixedSizeBitVectors and logic QF_BV: the operations, in the order of document 01's calls, then
-- the divisions of document 02, change 3. bvxor, bvslt, bvashr, bvsdiv and bvsrem are QF_BV's abbreviations, each
-- written as that document expands it; bvcomp is what its expansion comes to. ite is `cond`.
use Rattle.std.specs.Prelude.{ℕ, suc, ◌+◌, ◌-◌, ◌*◌, ◌/◌, ◌%◌, ◌^◌, Bool, true, false, cond, not, ◌&&◌, ◌||◌, [], ◌∷◌, ◌++◌, map, length, take, drop, ◌==◌, nat_lt, slice_index_or}
use Rattle.logic.specs.Table.{zip_with}
use Rattle.bitvec.specs.Bits.{Bits, bv2nat, nat2bv}

-- = on one bit, and on bit vectors.
abbrev pub same : Bool → Bool → Bool
same true b = b
same false b = not b

unfoldable pub equal : Bits → Bits → Bool
equal [] [] = true
equal [] (b ∷ t) = false
equal (a ∷ s) [] = false
equal (a ∷ s) (b ∷ t) = same a b && equal s t

-- The arguments of concat and extract stand as SMT-LIB has them: the high part first; the high index first.
abbrev pub concat : Bits → Bits → Bits
concat s t = t ++ s

abbrev pub extract : ℕ → ℕ → Bits → Bits
extract i j s = take (suc i - j) (drop j s)

abbrev pub bvnot : Bits → Bits
bvnot = map not

abbrev pub bvand : Bits → Bits → Bits
bvand = zip_with ◌&&◌

abbrev pub bvor : Bits → Bits → Bits
bvor = zip_with ◌||◌

-- (bvor (bvand s (bvnot t)) (bvand (bvnot s) t)), bit by bit
abbrev pub differ : Bool → Bool → Bool
differ a b = (a && not b) || (not a && b)

abbrev pub bvxor : Bits → Bits → Bits
bvxor = zip_with differ

abbrev pub bvadd : Bits → Bits → Bits
bvadd s t = nat2bv (length s) (bv2nat s + bv2nat t)

-- One bit, 1 where the two are equal.
abbrev pub bvcomp : Bits → Bits → Bits
bvcomp s t = equal s t ∷ []

abbrev pub bvult : Bits → Bits → Bool
bvult s t = nat_lt (bv2nat s) (bv2nat t)

-- The top bit, the sign.
abbrev pub msb : Bits → Bool
msb s = slice_index_or s (length s - 1) false

abbrev pub bvslt : Bits → Bits → Bool
bvslt s t = (msb s && not (msb t)) || (same (msb s) (msb t) && bvult s t)

abbrev pub bvshl : Bits → Bits → Bits
bvshl s t = nat2bv (length s) (bv2nat s * 2 ^ bv2nat t)

abbrev pub bvlshr : Bits → Bits → Bits
bvlshr s t = nat2bv (length s) (bv2nat s / 2 ^ bv2nat t)

abbrev pub bvashr : Bits → Bits → Bits
bvashr s t = cond (msb s) (bvnot (bvlshr (bvnot s) t)) (bvlshr s t)

abbrev pub bvmul : Bits → Bits → Bits
bvmul s t = nat2bv (length s) (bv2nat s * bv2nat t)

-- Division and remainder of unsigned numbers are total: by zero every bit is 1, and the first operand is left.
unfoldable pub bvudiv : Bits → Bits → Bits
bvudiv s t = cond (bv2nat t == 0) (map (λ b. true) s) (nat2bv (length s) (bv2nat s / bv2nat t))

unfoldable pub bvurem : Bits → Bits → Bits
bvurem s t = cond (bv2nat t == 0) s (nat2bv (length s) (bv2nat s % bv2nat t))

abbrev pub bvneg : Bits → Bits
bvneg s = nat2bv (length s) (2 ^ length s - bv2nat s)

-- Of signed numbers, by the signs of s and t: neither negative, s alone, t alone, both.
abbrev pub by_signs : Bits → Bits → Bits → Bits → Bits → Bits → Bits
by_signs s t neither first second both =
    cond (not (msb s) && not (msb t)) neither
    (cond (msb s && not (msb t)) first (cond (not (msb s) && msb t) second both))

unfoldable pub bvsdiv : Bits → Bits → Bits
bvsdiv s t =
    by_signs s t
    (bvudiv s t) (bvneg (bvudiv (bvneg s) t)) (bvneg (bvudiv s (bvneg t))) (bvudiv (bvneg s) (bvneg t))

unfoldable pub bvsrem : Bits → Bits → Bits
bvsrem s t =
    by_signs s t
    (bvurem s t) (bvneg (bvurem (bvneg s) t)) (bvurem s (bvneg t)) (bvneg (bvurem (bvneg s) (bvneg t)))
