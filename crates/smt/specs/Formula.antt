-- Document 01, "Modules", builder. The bits that the builder's terms have, of the bits of its nets: for each function
-- of the builder the formula that its calls spell, under QF_BV's operations.
use Rattle.std.specs.Prelude.{Bool, true, false, not, cond, ◌&&◌, ◌||◌, List, [], ◌∷◌, ◌++◌, map, ℕ, ◌-◌, get_or}
use Rattle.logic.specs.Trit.{x_of, y_of}
use Rattle.logic.specs.Net.{Net, constant, slot}
use Rattle.logic.specs.declared.Trit.{Trit}
use Rattle.bitvec.specs.Bits.{Bits}
use Rattle.bitvec.specs.Ops.{equal, concat, extract, bvnot, bvand, bvor, bvxor, bvadd, bvcomp}
use Rattle.engine.specs.Call.{BinaryOp, Compare}
use Rattle.engine.specs.Meaning.{Assignment, denote_op, denote_compare}
use Rattle.cell.specs.Cell.{Binary}
use Rattle.cell.specs.Cell as cells
use Rattle.engine.specs.Call as c
use Rattle.smt.specs.Prog.{Age, Half, is_undef, is_one}
use Rattle.smt.specs.Emit.{net_name}
use Rattle.smt.specs.Builder.{zeros, ones}

-- The bits of the two terms of a trit vector.
pub record TritBits : Type 0 where
  pub x : Bits
  pub y : Bits

abbrev pub tb : Bits → Bits → TritBits
tb x y = record { x = x; y = y }

-- ---- nets

-- A bit for each name of a net.
abbrev pub NetBits : Type 0
NetBits = Age → ℕ → Half → Bool

abbrev pub net_bits : Assignment → NetBits
net_bits ρ a i h = get_or (ρ (net_name a i h)) 0 false

-- The bits of a net, of the age at which each slot is read.
abbrev pub bit_of : NetBits → (ℕ → Age) → Half → Net → Bool
bit_of b age is_undef (constant t) = x_of t
bit_of b age is_one (constant t) = y_of t
bit_of b age is_undef (slot i) = b (age i) i is_undef
bit_of b age is_one (slot i) = b (age i) i is_one

unfoldable pub read_bits : NetBits → (ℕ → Age) → List Net → TritBits
read_bits b age nets = tb (map (bit_of b age is_undef) nets) (map (bit_of b age is_one) nets)

unfoldable pub lit_bits : List Trit → TritBits
lit_bits value = tb (map x_of value) (map y_of value)

-- ---- trit vectors

-- One after the other, the first at the bottom.
unfoldable pub concat_bits : List TritBits → TritBits
concat_bits [] = tb [] []
concat_bits (a ∷ rest) = tb (a.x ++ (concat_bits rest).x) (a.y ++ (concat_bits rest).y)

abbrev pub is0 : TritBits → Bits
is0 a = bvand (bvnot a.y) (bvnot a.x)

abbrev pub is1 : TritBits → Bits
is1 a = bvand a.y (bvnot a.x)

-- bv_is_zero, bv_to_bool, bool_to_bv.
abbrev pub is_zero : Bits → ℕ → Bool
is_zero s w = equal s (zeros w)

abbrev pub is_true : Bits → Bool
is_true s = equal s (true ∷ [])

abbrev pub one_bit : Bool → Bits
one_bit b = cond b (true ∷ []) (false ∷ [])

unfoldable pub extract_bits : ℕ → ℕ → TritBits → TritBits
extract_bits i j a = tb (extract i j a.x) (extract i j a.y)

unfoldable pub not_bits : TritBits → TritBits
not_bits a = tb a.x (bvnot a.y)

unfoldable pub and_bits : TritBits → TritBits → TritBits
and_bits a b = tb (bvand (bvor a.x b.x) (bvnot (bvor (is0 a) (is0 b)))) (bvand a.y b.y)

unfoldable pub or_bits : TritBits → TritBits → TritBits
or_bits a b = tb (bvand (bvor a.x b.x) (bvnot (bvor (is1 a) (is1 b)))) (bvor a.y b.y)

unfoldable pub xor_bits : TritBits → TritBits → TritBits
xor_bits a b = tb (bvor a.x b.x) (bvxor a.y b.y)

unfoldable pub mux_bits : TritBits → TritBits → TritBits → TritBits
mux_bits s a b =
    tb (cond (is_true (is0 s)) b.x (cond (is_true (is1 s)) a.x (bvor (bvor (bvxor a.y b.y) a.x) b.x)))
    (cond (is_true (is0 s)) b.y (cond (is_true (is1 s)) a.y (bvand a.y b.y)))

unfoldable pub invert_bits : Bool → TritBits → TritBits
invert_bits inverted a = tb a.x (bvcomp a.y (not inverted ∷ []))

-- tv_eq and tv_refines.
unfoldable pub same_bits : TritBits → TritBits → Bool
same_bits a b = equal a.x b.x && (equal a.y b.y && true)

unfoldable pub refines_bits : TritBits → TritBits → Bool
refines_bits from to =
    equal to.x (bvand to.x from.x)
    && (equal (bvand (bvnot from.x) from.y) (bvand (bvnot from.x) to.y) && true)

-- ---- the arms of cell

-- Is no bit of either x set?
abbrev pub no_x : TritBits → TritBits → ℕ → Bool
no_x a b n = is_zero a.x n && (is_zero b.x n && true)

-- Is there a position at which neither x is set and the y differ?
abbrev pub any_unequal : TritBits → TritBits → ℕ → Bool
any_unequal a b n = not (is_zero (bvand (bvxor a.y b.y) (bvnot (bvor a.x b.x))) n)

unfoldable pub equals_bits : TritBits → TritBits → ℕ → TritBits
equals_bits a b n =
    tb (one_bit (cond (any_unequal a b n) false (not (no_x a b n))))
    (bvcomp a.y b.y)

unfoldable pub less_bits : Compare → TritBits → TritBits → ℕ → TritBits
less_bits o a b n = tb (one_bit (not (no_x a b n))) (one_bit (denote_compare o a.y b.y))

-- The x of n bits: all set unless `defined`.
abbrev pub undef_x : Bool → ℕ → Bits
undef_x defined n = cond defined (zeros n) (ones n)

-- An operation on y; all X unless `defined`.
unfoldable pub strict_bits : BinaryOp → Bool → TritBits → TritBits → ℕ → TritBits
strict_bits o defined a b n = tb (undef_x defined n) (denote_op o a.y b.y)

-- Has no operand an X, and is the divisor not zero?
abbrev pub divides : TritBits → TritBits → ℕ → Bool
divides a b n = no_x a b n && (not (is_zero b.y n) && true)

abbrev pub divide_bits : BinaryOp → TritBits → TritBits → ℕ → TritBits
divide_bits o a b n = strict_bits o (divides a b n) a b n

-- The carry's x: the running or, and the last once more.
abbrev pub carry_or : Bool → Bool → Bool → Bool
carry_or c a b = c || (a || b)

unfoldable pub carry_bits : Bits → Bits → Bool → Bits
carry_bits [] bx c = c ∷ []
carry_bits (a ∷ ax) [] c = c ∷ []
carry_bits (a ∷ ax) (b ∷ bx) c = carry_or c a b ∷ carry_bits ax bx (carry_or c a b)

unfoldable pub adc_bits : TritBits → TritBits → Bool → Bool → ℕ → TritBits
adc_bits a b cx cy n =
    tb (carry_bits a.x b.x cx)
    (bvadd (bvadd (concat (false ∷ []) a.y) (concat (false ∷ []) b.y)) (concat (zeros n) (cy ∷ [])))

unfoldable pub shift_bits : BinaryOp → BinaryOp → ℕ → ℕ → TritBits → TritBits → Bits → TritBits
shift_bits on_x on_y n w value amount by =
    extract_bits (n - 1) 0
    (tb (cond (is_zero amount.x w) (denote_op on_x value.x by) (ones w)) (denote_op on_y value.y by))

abbrev pub binary_bits : Binary → TritBits → TritBits → ℕ → TritBits
binary_bits cells.and a b n = and_bits a b
binary_bits cells.or a b n = or_bits a b
binary_bits cells.xor a b n = xor_bits a b
binary_bits cells.eq a b n = equals_bits a b n
binary_bits cells.ult a b n = less_bits c.bvult a b n
binary_bits cells.slt a b n = less_bits c.bvslt a b n
binary_bits cells.mul a b n = strict_bits c.bvmul (no_x a b n) a b n
binary_bits cells.udiv a b n = divide_bits c.bvudiv a b n
binary_bits cells.umod a b n = divide_bits c.bvurem a b n
binary_bits cells.sdiv_trunc a b n = divide_bits c.bvsdiv a b n
binary_bits cells.smod_trunc a b n = divide_bits c.bvsrem a b n
