-- Eq, ULt, SLt, Mul and Adc show their rules: where no operand's trit is X, the trits are the bits of y, and a number
-- of trits is the number of these bits; where one is X, the result's x is set whatever y is.
use mathlib.Core.Path.{◌≡◌, refl, sym, ap, ap₂, ◌∙◌}
use mathlib.Core.Bool.{Bool, true, false, not, cond, ◌&&◌, ◌||◌, false≢true, not-not}
use mathlib.Core.List.{List, [], ◌∷◌, ◌++◌, map}
use Prim.Native.Nat.{ℕ, zero, suc, ◌+◌, ◌-◌, ◌*◌, ◌/◌, ◌%◌, ◌^◌, ◌<◌}
use native.Mathlib.Nat.{pow-suc, mul_comm, div-div-eq-div-mul, div-one, mod-add-mod}
use native.Mathlib.Numerals.{add-one}
use native.Mathlib.Omega.{arith}
use lib.Dec.{eqb}
use lib.ListN.{length, get_or, take, replicate, length-append, length-map}
use Rattle.logic.specs.Table.{tab}
use Rattle.logic.proofs.TableLaws.{tab_ext}
use Rattle.logic.specs.Trit.{shows}
use Rattle.logic.specs.declared.Trit.{Trit}
use Rattle.logic.specs.declared.Trit.TheVariants.{Zero, One, Undef}
use Rattle.bitvec.specs.Bits.{Bits, bit, bv2nat, nat2bv, odd}
use Rattle.bitvec.specs.Ops.{same, equal, concat, bvnot, bvand, bvor, bvxor, bvadd, bvult, bvslt, msb, bvmul}
use Rattle.bitvec.proofs.Laws.{length-nat2bv, length-bvmul, bv2nat-nat2bv, nat2bv_mod}
use Rattle.bitvec.proofs.Numbers.{bvslt_signs}
use Rattle.bitvec.proofs.Shifts.{bv2nat-zeros}
use Rattle.engine.specs.Call.{BinaryOp}
use Rattle.engine.specs.Call as c
use Rattle.engine.specs.Meaning.{denote_op}
use Rattle.cell.specs.Cell as cells
use Rattle.rules.specs.Trits.{is_x, any_x, digit, number, trit, bit_at}
use Rattle.rules.specs.Rules as r
use Rattle.rules.proofs.Number.{sum_low}
use Rattle.rules.proofs.RefineLaws.{neither}
use Rattle.smt.specs.Builder.{zeros, ones}
use Rattle.smt.proofs.WpLaws.{equal-eq}
use Rattle.smt.specs.Formula.{tb, is_zero, no_x, one_bit, equals_bits, less_bits, undef_x, strict_bits, carry_or}
use Rattle.smt.specs.Formula.{carry_bits, adc_bits}
use Rattle.smt.proofs.Shows.{Shown, empty, lane, BitsShow, shown-x, shown-y, shown_ts, one_more_lem}

-- ---- X or not

-- x is zero just where no trit is X.
pub zero-x : {n : ℕ} {x y : Bits} {ts : List Trit} → Shown n x y ts → is_zero x n ≡ not (any_x ts)
unfolding equal any_x
zero-x empty = refl
zero-x (lane true b p) = refl
zero-x (lane false true p) = zero-x p
zero-x (lane false false p) = zero-x p

-- Without X, the trits are the bits of y.
pub defined_ts : {n : ℕ} {x y : Bits} {ts : List Trit} → Shown n x y ts → any_x ts ≡ false → ts ≡ map trit y
unfolding any_x
defined_ts empty e = refl
defined_ts (lane true b p) e = absurd (false≢true (sym e))
defined_ts (lane false true p) e = ap (λ (l : List Trit). One ∷ l) (defined_ts p e)
defined_ts (lane false false p) e = ap (λ (l : List Trit). Zero ∷ l) (defined_ts p e)

pub number-trits : (y : Bits) → number (map trit y) ≡ bv2nat y
unfolding number bv2nat
number-trits [] = refl
number-trits (true ∷ y) = rw (number-trits y)
number-trits (false ∷ y) = rw (number-trits y)

pub number-defined : {n : ℕ} {x y : Bits} {ts : List Trit} → Shown n x y ts → any_x ts ≡ false → number ts ≡ bv2nat y
number-defined {y = y} p e = ap number (defined_ts p e) ∙ number-trits y

-- A result of one trit, X where a is.
one-trit : (a b : Bool) → Shown 1 (one_bit a) (one_bit b) (cond a Undef (trit b) ∷ [])
one-trit true true = lane true true empty
one-trit true false = lane true false empty
one-trit false true = lane false true empty
one-trit false false = lane false false empty

-- ---- Eq

mismatches : {n : ℕ} {x y u v : Bits} {ts us : List Trit} → Shown n x y ts → Shown n u v us
    → is_zero (bvand (bvxor y v) (bvnot (bvor x u))) n ≡ not (r.any_mismatch ts us)
unfolding equal r.any_mismatch
mismatches empty empty = refl
mismatches (lane true true p) (lane true true q) = mismatches p q
mismatches (lane true true p) (lane true false q) = mismatches p q
mismatches (lane true true p) (lane false true q) = mismatches p q
mismatches (lane true true p) (lane false false q) = mismatches p q
mismatches (lane true false p) (lane true true q) = mismatches p q
mismatches (lane true false p) (lane true false q) = mismatches p q
mismatches (lane true false p) (lane false true q) = mismatches p q
mismatches (lane true false p) (lane false false q) = mismatches p q
mismatches (lane false true p) (lane true true q) = mismatches p q
mismatches (lane false true p) (lane true false q) = mismatches p q
mismatches (lane false true p) (lane false true q) = mismatches p q
mismatches (lane false true p) (lane false false q) = refl
mismatches (lane false false p) (lane true true q) = mismatches p q
mismatches (lane false false p) (lane true false q) = mismatches p q
mismatches (lane false false p) (lane false true q) = refl
mismatches (lane false false p) (lane false false q) = mismatches p q

-- Equal y hides no mismatch.
no_mismatch : {n : ℕ} {x y u : Bits} {ts us : List Trit} → Shown n x y ts → Shown n u y us → r.any_mismatch ts us ≡ false
unfolding r.any_mismatch
no_mismatch empty empty = refl
no_mismatch (lane true b p) (lane c d q) = no_mismatch p q
no_mismatch (lane false true p) (lane true d q) = no_mismatch p q
no_mismatch (lane false true p) (lane false d q) = no_mismatch p q
no_mismatch (lane false false p) (lane true d q) = no_mismatch p q
no_mismatch (lane false false p) (lane false d q) = no_mismatch p q

-- Without X a mismatch is all that makes y unequal.
mismatch-trits : (y v : Bits) → length y ≡ length v → equal y v ≡ not (r.any_mismatch (map trit y) (map trit v))
unfolding equal r.any_mismatch
mismatch-trits [] [] e = refl
mismatch-trits [] (d ∷ v) e = absurd (omega arith)
mismatch-trits (b ∷ y) [] e = absurd (omega arith)
mismatch-trits (true ∷ y) (true ∷ v) e = mismatch-trits y v (omega arith)
mismatch-trits (true ∷ y) (false ∷ v) e = refl
mismatch-trits (false ∷ y) (true ∷ v) e = refl
mismatch-trits (false ∷ y) (false ∷ v) e = mismatch-trits y v (omega arith)

pub equals_shows : {n : ℕ} {x y u v : Bits} {ts us : List Trit} → Shown n x y ts → Shown n u v us
    → BitsShow 1 (equals_bits (tb x y) (tb u v) n) (r.eq ts us ∷ [])
unfolding equals_bits
equals_shows {x = x} {y = y} {u = u} {v = v} {ts = ts} {us = us} p q =
    rw (mismatches p q, zero-x p, zero-x q)
    (go (r.any_mismatch ts us) (any_x ts) (any_x us) (equal y v) refl refl refl refl)
  where
    go : (m a b e : Bool) → r.any_mismatch ts us ≡ m → any_x ts ≡ a → any_x us ≡ b → equal y v ≡ e
        → Shown 1 (one_bit (cond (not (not m)) false (not (not a && (not b && true))))) (e ∷ [])
        (cond m Zero (cond (a || b) Undef One) ∷ [])
    go true a b true em ea eb ee =
        absurd (false≢true (sym (no_mismatch p (rw (sym (equal-eq y v ee)) at q)) ∙ em))
    go true a b false em ea eb ee = lane false false empty
    go false true b e em ea eb ee = lane true e empty
    go false false true e em ea eb ee = lane true e empty
    go false false false true em ea eb ee = lane false true empty
    go false false false false em ea eb ee =
        absurd (false≢true (sym ee ∙ mismatch-trits y v (shown-y p ∙ sym (shown-y q))
        ∙ ap not (ap₂ r.any_mismatch (sym (defined_ts p ea)) (sym (defined_ts q eb)) ∙ em)))

-- ---- ULt and SLt

-- No bit of either x is set just where no operand has an X.
pub no_x_lem : {n : ℕ} {x y u v : Bits} {ts us : List Trit} → Shown n x y ts → Shown n u v us
    → no_x (tb x y) (tb u v) n ≡ not (r.some_x ts us)
no_x_lem {ts = ts} {us = us} p q = rw (zero-x p, zero-x q) (both (any_x ts) (any_x us))
  where
    both : (a b : Bool) → (not a && (not b && true)) ≡ not (a || b)
    both true b = refl
    both false true = refl
    both false false = refl

-- A comparison of numbers: X where it is undefined, else the Bool that y says.
less-shows : (undefined l m : Bool) → (undefined ≡ false → l ≡ m)
    → Shown 1 (one_bit undefined) (one_bit m) (r.defined undefined 1 (trit l ∷ []))
less-shows true l m h = one-trit true m
less-shows false l m h = rw (h refl) (one-trit false m)

-- The sign: the top trit.
pub negative-msb : {n : ℕ} {x y : Bits} {ts : List Trit} → Shown n x y ts → any_x ts ≡ false → r.negative ts ≡ msb y
negative-msb {y = y} {ts = ts} p e = ap r.negative (defined_ts p e) ∙ go y
  where
    top : (y : Bits) (i : ℕ) → eqb (digit (get_or (map trit y) i Zero)) 1 ≡ get_or y i false
    top [] i = refl
    top (true ∷ y) zero = refl
    top (false ∷ y) zero = refl
    top (b ∷ y) (suc i) = top y i

    go : (y : Bits) → r.negative (map trit y) ≡ msb y
    go y = rw (length-map y trit) (top y (length y - 1))

pub ult_shows : {n : ℕ} {x y u v : Bits} {ts us : List Trit} → Shown n x y ts → Shown n u v us
    → BitsShow 1 (less_bits c.bvult (tb x y) (tb u v) n) (r.defined (r.some_x ts us) 1 (trit (r.less ts us) ∷ []))
unfolding less_bits
ult_shows {y = y} {v = v} {ts = ts} {us = us} p q =
    rw (no_x_lem p q, not-not (r.some_x ts us)) (less-shows (r.some_x ts us) (r.less ts us) (bvult y v) numbers)
  where
    numbers : r.some_x ts us ≡ false → r.less ts us ≡ bvult y v
    numbers e = let none = neither (any_x ts) (any_x us) e in rw (number-defined p none.0, number-defined q none.1)

pub slt_shows : {n : ℕ} {x y u v : Bits} {ts us : List Trit} → Shown n x y ts → Shown n u v us
    → BitsShow 1 (less_bits c.bvslt (tb x y) (tb u v) n) (r.defined (r.some_x ts us) 1 (trit (r.signed_less ts us) ∷ []))
unfolding less_bits
slt_shows {y = y} {v = v} {ts = ts} {us = us} p q =
    rw (no_x_lem p q, not-not (r.some_x ts us)) (less-shows (r.some_x ts us) (r.signed_less ts us) (bvslt y v) signed)
  where
    by_signs_lem : (a b l : Bool) → cond a (cond b l true) (cond b false l) ≡ cond (same a b) l a
    by_signs_lem true true l = refl
    by_signs_lem true false l = refl
    by_signs_lem false true l = refl
    by_signs_lem false false l = refl

    signed : r.some_x ts us ≡ false → r.signed_less ts us ≡ bvslt y v
    signed e =
        let none = neither (any_x ts) (any_x us) e in
        rw (negative-msb p none.0, negative-msb q none.1, number-defined p none.0, number-defined q none.1)
        (by_signs_lem (msb y) (msb v) (bvult y v) ∙ sym (bvslt_signs y v))

-- ---- Mul

-- All X.
pub ones-shows : (n : ℕ) (y : Bits) → length y ≡ n → Shown n (ones n) y (replicate n Undef)
ones-shows zero [] e = empty
ones-shows zero (b ∷ y) e = absurd (omega arith)
ones-shows (suc n) [] e = absurd (omega arith)
ones-shows (suc n) (b ∷ y) e = lane true b (ones-shows n y (omega arith))

half_power : (v i : ℕ) → v / 2 / 2 ^ i ≡ v / 2 ^ suc i
half_power v i = div-div-eq-div-mul v 2 (2 ^ i) ∙ ap (λ (q : ℕ). v / q) (mul_comm 2 (2 ^ i) ∙ sym (pow-suc 2 i))

as_trit : (b : Bool) → shows false b ≡ trit b
as_trit true = refl
as_trit false = refl

-- The bits of a number, with none of them X.
pub number-shows : (n v : ℕ) → Shown n (zeros n) (nat2bv n v) (tab n (bit_at v))
unfolding nat2bv tab
number-shows zero v = empty
number-shows (suc n) v =
    one_more_lem false (odd v) (bit_at v 0) (low v)
    (rw (tab_ext n (λ i. bit_at v (suc i)) (bit_at (v / 2))
    (λ i h. ap (λ (q : ℕ). trit (eqb (q % 2) 1)) (sym (half_power v i))))
    (number-shows n (v / 2)))
  where
    low : (v : ℕ) → shows false (odd v) ≡ bit_at v 0
    low v = as_trit (odd v) ∙ ap (λ (q : ℕ). trit (eqb (q % 2) 1)) (sym (div-one v))

-- A number of n bits: all X where it is undefined, else its bits.
undefined_shows : (undefined : Bool) (n m : ℕ) (y : Bits) → length y ≡ n → (undefined ≡ false → y ≡ nat2bv n m)
    → Shown n (undef_x (not undefined) n) y (r.defined undefined n (r.trits n m))
undefined_shows true n m y e h = ones-shows n y e
undefined_shows false n m y e h = rw (h refl) (number-shows n m)

-- An operation on y that keeps the width, where its number is known: all X where it is undefined, else that number.
pub strict_shows : {n : ℕ} {x y u v : Bits} {ts us : List Trit} → Shown n x y ts → Shown n u v us
    → (o : BinaryOp) (undefined : Bool) (m : ℕ) → length (denote_op o y v) ≡ length y
    → (undefined ≡ false → denote_op o y v ≡ nat2bv (length y) m)
    → BitsShow n (strict_bits o (not undefined) (tb x y) (tb u v) n)
    (r.defined undefined (length ts) (r.trits (length ts) m))
unfolding strict_bits
strict_shows {n} {y = y} {v = v} p q o undefined m keeps numbers =
    rw (shown_ts p)
    (undefined_shows undefined n m (denote_op o y v) (keeps ∙ shown-y p)
    (λ d. numbers d ∙ ap (λ (k : ℕ). nat2bv k m) (shown-y p)))

pub mul_shows : {n : ℕ} {x y u v : Bits} {ts us : List Trit} → Shown n x y ts → Shown n u v us
    → BitsShow n (strict_bits c.bvmul (no_x (tb x y) (tb u v) n) (tb x y) (tb u v) n) (r.binary cells.mul ts us)
mul_shows {y = y} {v = v} {ts = ts} {us = us} p q =
    rw (no_x_lem p q) (strict_shows p q c.bvmul (r.some_x ts us) (number ts * number us) (length-bvmul y v) numbers)
  where
    numbers : r.some_x ts us ≡ false → bvmul y v ≡ nat2bv (length y) (number ts * number us)
    numbers e = let none = neither (any_x ts) (any_x us) e in rw (number-defined p none.0, number-defined q none.1)

-- ---- Adc

-- By its lanes, one by one.
pub shown-tab : (n : ℕ) (x y : Bits) (f : ℕ → Trit) → length x ≡ n → length y ≡ n
    → ((i : ℕ) → i < n → shows (get_or x i false) (get_or y i false) ≡ f i) → Shown n x y (tab n f)
unfolding tab
shown-tab zero [] [] f ex ey h = empty
shown-tab zero [] (b ∷ y) f ex ey h = absurd (omega arith)
shown-tab zero (a ∷ x) y f ex ey h = absurd (omega arith)
shown-tab (suc n) [] y f ex ey h = absurd (omega arith)
shown-tab (suc n) (a ∷ x) [] f ex ey h = absurd (omega arith)
shown-tab (suc n) (a ∷ x) (b ∷ y) f ex ey h =
    one_more_lem a b (f 0) (h 0 (omega arith)) (shown-tab n x y (λ i. f (suc i)) (omega arith) (omega arith)
    (λ i l. h (suc i) (omega arith)))

-- The carry's x at i: is the carry-in X, or any operand trit up to i?
x_of_lem : (a b : Bool) → is_x (shows a b) ≡ a
x_of_lem true b = refl
x_of_lem false true = refl
x_of_lem false false = refl

carry_at : {n : ℕ} {x y u v : Bits} {ts us : List Trit} → Shown n x y ts → Shown n u v us → (d : Bool) (i : ℕ)
    → i < suc n
    → get_or (carry_bits x u d) i false ≡ (d || (any_x (take (suc i) ts) || any_x (take (suc i) us)))
unfolding carry_bits any_x
carry_at empty empty true zero h = refl
carry_at empty empty false zero h = refl
carry_at empty empty d (suc i) h = absurd (omega arith)
carry_at (lane a b p) (lane e g q) d zero h = rw (x_of_lem a b, x_of_lem e g) (here d a e)
  where
    here : (d a e : Bool) → carry_or d a e ≡ (d || ((a || false) || (e || false)))
    here true a e = refl
    here false true e = refl
    here false false true = refl
    here false false false = refl
carry_at (lane {ts = ts} a b p) (lane {ts = us} e g q) d (suc i) h =
    carry_at p q (carry_or d a e) i (omega arith)
    ∙ rw (x_of_lem a b, x_of_lem e g) (further d a e (any_x (take (suc i) ts)) (any_x (take (suc i) us)))
  where
    further : (d a e s w : Bool) → (carry_or d a e || (s || w)) ≡ (d || ((a || s) || (e || w)))
    further true a e s w = refl
    further false true e s w = refl
    further false false true true w = refl
    further false false true false w = refl
    further false false false s w = refl

length_carry : (x u : Bits) (d : Bool) → length x ≡ length u → length (carry_bits x u d) ≡ suc (length x)
unfolding carry_bits
length_carry [] [] d e = refl
length_carry [] (b ∷ u) d e = refl
length_carry (a ∷ x) [] d e = absurd (omega arith)
length_carry (a ∷ x) (b ∷ u) d e = ap suc (length_carry x u (carry_or d a b) (omega arith))

-- The low k trits, where none of them is X.
low-defined : {n : ℕ} {x y : Bits} {ts : List Trit} → Shown n x y ts → (k : ℕ) → any_x (take k ts) ≡ false
    → take k ts ≡ take k (map trit y)
unfolding any_x
low-defined p zero e = refl
low-defined empty (suc k) e = refl
low-defined (lane true b p) (suc k) e = absurd (false≢true (sym e))
low-defined (lane false true p) (suc k) e = ap (λ (l : List Trit). One ∷ l) (low-defined p k e)
low-defined (lane false false p) (suc k) e = ap (λ (l : List Trit). Zero ∷ l) (low-defined p k e)

-- Bit i of a number.
nat2bv-at : (m v i : ℕ) → i < m → get_or (nat2bv m v) i false ≡ odd (v / 2 ^ i)
unfolding nat2bv
nat2bv-at zero v i h = absurd (omega arith)
nat2bv-at (suc m) v zero h = ap odd (sym (div-one v))
nat2bv-at (suc m) v (suc i) h = nat2bv-at m (v / 2) i (omega arith) ∙ ap odd (half_power v i)

-- The builder's two sums at one more bit are the sum with the carry.
nat2bv_add : (m v w : ℕ) → nat2bv m (v % 2 ^ m + w) ≡ nat2bv m (v + w)
nat2bv_add m v w = sym (nat2bv_mod m (v % 2 ^ m + w)) ∙ ap (nat2bv m) (mod-add-mod v (2 ^ m) w) ∙ nat2bv_mod m (v + w)

carry_number : (n : ℕ) (d : Bool) → bv2nat ((d ∷ []) ++ zeros n) ≡ bit d
unfolding bv2nat
carry_number n d = bv2nat-zeros (d ∷ []) n ∙ omega arith

adc-sum : (n : ℕ) (x y : Bits) (d : Bool) → length x ≡ n
    → bvadd (bvadd (concat (false ∷ []) x) (concat (false ∷ []) y)) (concat (zeros n) (d ∷ []))
    ≡ nat2bv (suc n) (bv2nat x + bv2nat y + bit d)
adc-sum n x y d e =
    rw (
      length-nat2bv,
      length-append x (false ∷ []),
      e,
      add-one n,
      bv2nat-nat2bv,
      bv2nat-zeros x 1,
      bv2nat-zeros y 1,
      carry_number n d,
      nat2bv_add,
    )

pub adc-shows : {n : ℕ} {x y u v : Bits} {ts us : List Trit} (cx cy : Bool) → Shown n x y ts → Shown n u v us
    → BitsShow (suc n) (adc_bits (tb x y) (tb u v) cx cy n) (r.adc ts us (shows cx cy))
unfolding adc_bits
adc-shows {n} {x = x} {y = y} {u = u} {v = v} {ts = ts} {us = us} cx cy p q =
    rw (adc-sum n y v cy (shown-y p), shown_ts p, add-one n)
    (shown-tab (suc n) (carry_bits x u cx) _ _ (length_carry x u cx (shown-x p ∙ sym (shown-x q)) ∙ ap suc (shown-x p))
    (length-nat2bv (suc n) _) at-bit)
  where
    total : ℕ
    total = bv2nat y + bv2nat v + bit cy

    -- Bit i of the sum of the trits' numbers and of the bits', where the operands' trits up to i are not X.
    low_sum : (i : ℕ) → any_x (take (suc i) ts) ≡ false → any_x (take (suc i) us) ≡ false
        → bit_at (number ts + number us + bit cy) i ≡ bit_at total i
    low_sum i ea eb =
        sum_low i ts us (bit cy)
        ∙ ap₂ (λ (a b : List Trit). bit_at (number a + number b + bit cy) i)
        (rw (add-one i) (low-defined p (suc i) ea)) (rw (add-one i) (low-defined q (suc i) eb))
        ∙ sym (sum_low i (map trit y) (map trit v) (bit cy))
        ∙ ap₂ (λ (a b : ℕ). bit_at (a + b + bit cy) i) (number-trits y) (number-trits v)

    shown : (cx a b : Bool) (i : ℕ) → any_x (take (suc i) ts) ≡ a → any_x (take (suc i) us) ≡ b
        → shows (cx || (a || b)) (odd (total / 2 ^ i))
        ≡ cond (is_x (shows cx cy) || (a || b)) Undef (bit_at (number ts + number us + digit (shows cx cy)) i)
    shown true a b i ea eb = refl
    shown false true b i ea eb = rw (x_of_lem false cy)
    shown false false true i ea eb = rw (x_of_lem false cy)
    shown false false false i ea eb = rw (x_of_lem false cy, digit_of cy, low_sum i ea eb) (as_trit (odd (total / 2 ^ i)))
      where
        digit_of : (b : Bool) → digit (shows false b) ≡ bit b
        digit_of true = refl
        digit_of false = refl

    at-bit : (i : ℕ) → i < suc n
        → shows (get_or (carry_bits x u cx) i false) (get_or (nat2bv (suc n) total) i false)
        ≡ cond (is_x (shows cx cy) || (any_x (take (i + 1) ts) || any_x (take (i + 1) us))) Undef
        (bit_at (number ts + number us + digit (shows cx cy)) i)
    at-bit i h =
        rw (carry_at p q cx i h, nat2bv-at (suc n) total i h, add-one i)
        (shown cx (any_x (take (suc i) ts)) (any_x (take (suc i) us)) i refl refl)
