-- Document 01, "Cell rules, over trits", and document 02, change 3: the rule of each operation, on vectors of trits,
-- low first, in their order.
use Rattle.std.specs.Prelude.{Bool, true, false, not, cond, ◌||◌, List, [], ◌∷◌, ◌++◌, map, ℕ, suc, ◌+◌, ◌-◌, ◌*◌, ◌/◌, ◌%◌, ◌^◌, eqb, ltb, length, get_or, take, drop, replicate}
use Rattle.logic.specs.Table.{zip_with, tab}
use Rattle.logic.specs.declared.Trit.{Trit}
use Rattle.logic.specs.declared.Trit.TheVariants.{Zero, One, Undef}
use Rattle.rules.specs.Trits as t
use Rattle.rules.specs.Trits.{is_x, any_x, digit, number, trit, bit_at}
use Rattle.cell.specs.Cell.{Unary, Binary, Shift}
use Rattle.cell.specs.Cell as c

-- The n low bits of a number.
abbrev pub trits : ℕ → ℕ → List Trit
trits n v = tab n (bit_at v)

-- Buf copies; Not is Kleene's.
abbrev pub unary : Unary → List Trit → List Trit
unary c.buf a = a
unary c.inverter a = map t.not a

-- Mux, trit by trit.
abbrev pub mux : Trit → List Trit → List Trit → List Trit
mux s a b = zip_with (t.mux s) a b

-- Adc: bit i is X if carry-in or any operand bit up to i is, the top bit if any is; else it is the sum's bit. At n = 0
-- that is the carry.
abbrev pub adc_bit : List Trit → List Trit → Trit → ℕ → Trit
adc_bit a b carry i =
    cond (is_x carry || (any_x (take (i + 1) a) || any_x (take (i + 1) b)))
    Undef
    (bit_at (number a + number b + digit carry) i)

abbrev pub adc : List Trit → List Trit → Trit → List Trit
adc a b carry = tab (length a + 1) (adc_bit a b carry)

-- Are both defined, and differ? And is there a position at which they do?
abbrev pub mismatch : Trit → Trit → Bool
mismatch Zero One = true
mismatch One Zero = true
mismatch Zero Zero = false
mismatch Zero Undef = false
mismatch One One = false
mismatch One Undef = false
mismatch Undef b = false

unfoldable pub any_mismatch : List Trit → List Trit → Bool
any_mismatch [] b = false
any_mismatch (x ∷ a) [] = false
any_mismatch (x ∷ a) (y ∷ b) = mismatch x y || any_mismatch a b

-- Is any trit of either operand X?
abbrev pub some_x : List Trit → List Trit → Bool
some_x a b = any_x a || any_x b

-- Eq: 0 on any defined mismatch, else X on any X.
abbrev pub eq : List Trit → List Trit → Trit
eq a b = cond (any_mismatch a b) Zero (cond (some_x a b) Undef One)

-- The sign of a vector: is its top trit 1?
abbrev pub negative : List Trit → Bool
negative a = eqb (digit (get_or a (length a - 1) Zero)) 1

-- Order of unsigned numbers, and of signed ones: a negative one is less, and two of one sign go as unsigned.
abbrev pub less : List Trit → List Trit → Bool
less a b = ltb (number a) (number b)

abbrev pub signed_less : List Trit → List Trit → Bool
signed_less a b = cond (negative a) (cond (negative b) (less a b) true) (cond (negative b) false (less a b))

-- A result of n trits: all X where it is undefined.
abbrev pub defined : Bool → ℕ → List Trit → List Trit
defined undefined n result = cond undefined (replicate n Undef) result

-- A signed number of n bits by its sign and its size, and the size of a vector: a negative one is 2 ^ n less its size.
abbrev pub signed : Bool → ℕ → ℕ → ℕ
signed minus n size = cond minus (2 ^ n - size) size

abbrev pub size : List Trit → ℕ
size a = signed (negative a) (length a) (number a)

-- Division of signed numbers, truncated towards zero: the quotient is negative where one operand alone is, the
-- remainder where the first is.
abbrev pub quotient : List Trit → List Trit → ℕ
quotient a b = signed (cond (negative a) (not (negative b)) (negative b)) (length a) (size a / size b)

abbrev pub remainder : List Trit → List Trit → ℕ
remainder a b = signed (negative a) (length a) (size a % size b)

-- The divisions: all X on any X or a divisor of zero.
abbrev pub undivided : List Trit → List Trit → Bool
undivided a b = some_x a b || eqb (number b) 0

abbrev pub divided : List Trit → List Trit → ℕ → List Trit
divided a b result = defined (undivided a b) (length a) (trits (length a) result)

-- ULt, SLt, Mul: all X on any X; the divisions as above.
abbrev pub binary : Binary → List Trit → List Trit → List Trit
binary c.and a b = zip_with t.and a b
binary c.or a b = zip_with t.or a b
binary c.xor a b = zip_with t.xor a b
binary c.eq a b = eq a b ∷ []
binary c.ult a b = defined (some_x a b) 1 (trit (less a b) ∷ [])
binary c.slt a b = defined (some_x a b) 1 (trit (signed_less a b) ∷ [])
binary c.mul a b = defined (some_x a b) (length a) (trits (length a) (number a * number b))
binary c.udiv a b = divided a b (number a / number b)
binary c.umod a b = divided a b (number a % number b)
binary c.sdiv_trunc a b = divided a b (quotient a b)
binary c.smod_trunc a b = divided a b (remainder a b)

-- Shifts by k places: bit i comes from i - k, or from i + k; the rest is filled.
abbrev pub left : ℕ → List Trit → List Trit
left k value = tab (length value) (λ i. cond (ltb i k) Zero (get_or value (i - k) Zero))

abbrev pub right : Trit → ℕ → List Trit → List Trit
right fill k value = tab (length value) (λ i. get_or value (i + k) fill)

-- Fill 0, 0, the top trit, X.
abbrev pub shifted : Shift → ℕ → List Trit → List Trit
shifted c.shl k value = left k value
shifted c.ushr k value = right Zero k value
shifted c.sshr k value = right (get_or value (length value - 1) Undef) k value
shifted c.xshr k value = right Undef k value

-- Shifts: all X if the amount has an X, else by amount × stride.
abbrev pub shift : Shift → List Trit → List Trit → ℕ → List Trit
shift op value amount stride =
    cond (any_x amount) (replicate (length value) Undef) (shifted op (number amount * stride) value)

-- Does the value match an alternate? An X in a pattern is not compared.
unfoldable pub alternate : List Trit → List Trit → Trit
alternate [] pattern = One
alternate (v ∷ value) [] = One
alternate (v ∷ value) (Undef ∷ pattern) = alternate value pattern
alternate (v ∷ value) (Zero ∷ pattern) = t.and (t.not v) (alternate value pattern)
alternate (v ∷ value) (One ∷ pattern) = t.and v (alternate value pattern)

-- Does it match one of a pattern's alternates?
unfoldable pub matches : List Trit → List (List Trit) → Trit
matches value [] = Zero
matches value (a ∷ alternates) = t.or (alternate value a) (matches value alternates)

abbrev pub one_hot : ℕ → ℕ → List Trit
one_hot k i = tab k (λ j. trit (eqb j i))

-- The first of the patterns from the i-th on that matches is hot, of k in all.
unfoldable pub first_hot : ℕ → ℕ → List Trit → List Trit
first_hot k i [] = replicate k Zero
first_hot k i (m ∷ ms) = mux m (one_hot k i) (first_hot k (suc i) ms)

-- Match: while enabled, the first pattern with a matching alternate is hot, all else 0.
abbrev pub match : List Trit → Trit → List (List (List Trit)) → List Trit
match value enable patterns =
    mux enable (first_hot (length patterns) 0 (map (matches value) patterns)) (replicate (length patterns) Zero)

-- Assign: enabled, by Mux, update replaces from offset.
abbrev pub overwrite : List Trit → ℕ → List Trit → List Trit
overwrite value offset update = take offset value ++ (update ++ drop (offset + length update) value)

abbrev pub assign : List Trit → Trit → List Trit → ℕ → List Trit
assign value enable update offset = mux enable (overwrite value offset update) value

-- What a flip-flop's rule is given: its controls as trits, the clock's edge, its values, and its own past output.
pub record FlipFlopInputs : Type 0 where
  pub edge : Trit
  pub clear : Trit
  pub reset : Trit
  pub enable : Trit
  pub has_clear : Bool
  pub reset_over_enable : Bool
  pub dat : List Trit
  pub clear_value : List Trit
  pub reset_value : List Trit
  pub past : List Trit

-- Dff, each step by Mux: reset and enable in the flagged order, then the clock edge, then clear unless it is constantly
-- inactive.
abbrev pub loaded : FlipFlopInputs → List Trit
loaded f =
    cond f.reset_over_enable
    (mux f.reset f.reset_value (mux f.enable f.dat f.past))
    (mux f.enable (mux f.reset f.reset_value f.dat) f.past)

abbrev pub clocked : FlipFlopInputs → List Trit
clocked f = mux f.edge (loaded f) f.past

abbrev pub dff : FlipFlopInputs → List Trit
dff f = cond f.has_clear (mux f.clear f.clear_value (clocked f)) (clocked f)
