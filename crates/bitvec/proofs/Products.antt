-- The product from the highest bit down, for every width and every number of bits: the law of its partial sums, and
-- what a loop over them needs. Assumes nothing.
use Rattle.std.proofs.Common.{◌≡◌, ℕ, zero, suc, ◌+◌, ◌-◌, ◌*◌, ◌/◌, ◌%◌, ◌^◌, ◌<◌, ◌≤◌, Bool, true, false, cond, eqb, sym, ap, ◌∙◌, ap₂, mod-lt, mul_comm, mul-zero, mul-add, div-one, mul_left_comm, add-one, arith, pow_pos, shr-shr}
use native.Mathlib.Nat.{add-mod, zero-mod}
use native.Mathlib.Nat.{div-eq_of_lt, sub_self, sub-zero}
use Rattle.bitvec.specs.Bits.{bit, odd}
use Rattle.bitvec.specs.Partial.{partial, top_bits}
use Rattle.bitvec.proofs.Laws.{bit-odd}
use Rattle.bitvec.proofs.Arithmetic.{mul_mod_first, within, narrower}

-- ---- the number that the top bits form

top_none : (b w : ℕ) → top_bits b w 0 ≡ 0
unfolding top_bits
top_none b w = ap (λ (k : ℕ). b % 2 ^ w / 2 ^ k) (sub-zero w) ∙ div-eq_of_lt (mod-lt b (pow_pos w))

top_all : (b w : ℕ) → top_bits b w w ≡ b % 2 ^ w
unfolding top_bits
top_all b w = ap (λ (k : ℕ). b % 2 ^ w / 2 ^ k) (sub_self w) ∙ div-one (b % 2 ^ w)

-- One bit more: twice the number, and the bit.
top_next : (b w j : ℕ) → j < w → top_bits b w (suc j) ≡ 2 * top_bits b w j + bit (odd (b / 2 ^ (w - 1 - j)))
unfolding top_bits
top_next b w j h =
    ap (λ (n : ℕ). b % 2 ^ w / 2 ^ n) (let e : w - suc j ≡ k = omega arith in e)
    ∙ halved (b % 2 ^ w / 2 ^ k)
    ∙ ap₂ (λ (x y : ℕ). 2 * x + y)
    (shr-shr (b % 2 ^ w) k 1 ∙ ap (λ (n : ℕ). b % 2 ^ w / 2 ^ n) (let e : k + 1 ≡ w - j = omega arith in e))
    (ap (λ (v : ℕ). bit (eqb v 1)) (within w k 1 b (omega arith)))
  where
    k : ℕ
    k = w - 1 - j

    halved : (q : ℕ) → q ≡ 2 * (q / 2) + bit (odd q)
    halved q = omega (arith, bit-odd q)

-- ---- the sum

twice_mod : (x y m : ℕ) → (2 * (x % m) + y) % m ≡ (2 * x + y) % m
twice_mod x y m =
    add-mod (2 * (x % m)) y m ∙ ap (λ (v : ℕ). (v + y % m) % m) (sym twice) ∙ sym (add-mod (2 * x) y m)
  where
    twice : 2 * x % m ≡ 2 * (x % m) % m
    twice =
        ap (λ (v : ℕ). v % m) (mul_comm 2 x) ∙ mul_mod_first x 2 m ∙ ap (λ (v : ℕ). v % m) (mul_comm (x % m) 2)

-- The law of document 02, change 2: the sum after the top j bits is the first operand times the number they form.
pub partial-product : (a b w j : ℕ) → j ≤ w → partial a b w j ≡ a * top_bits b w j % 2 ^ w
unfolding partial
partial-product a b w zero h = sym (rw (top_none b w, mul-zero a) (zero-mod (2 ^ w)))
partial-product a b w (suc j) h =
    ap (λ (v : ℕ). (2 * v + cond top a 0) % 2 ^ w) (partial-product a b w j (omega arith))
    ∙ twice_mod (a * top_bits b w j) (cond top a 0) (2 ^ w)
    ∙ ap (λ (v : ℕ). v % 2 ^ w) (sym (times top))
    ∙ ap (λ (v : ℕ). a * v % 2 ^ w) (sym (top_next b w j h))
  where
    top : Bool
    top = odd (b / 2 ^ (w - 1 - j))

    times : (o : Bool) → a * (2 * top_bits b w j + bit o) ≡ 2 * (a * top_bits b w j) + cond o a 0
    times true = mul-add a (2 * top_bits b w j) 1 ∙ omega (arith, mul_left_comm a 2 (top_bits b w j))
    times false = mul-add a (2 * top_bits b w j) 0 ∙ omega (arith, mul_left_comm a 2 (top_bits b w j))

-- ---- the turns of the loop: none, one more, all

pub partial-none : (a b w : ℕ) → 0 % 2 ^ w ≡ partial a b w 0
unfolding partial
partial-none a b w = zero-mod (2 ^ w)

-- As the code takes a bit, each addition is cut to 64 bits. o is the bit.
pub partial-next : (a b w j sum twice next : ℕ) → w ≤ 64 → sum % 2 ^ w ≡ partial a b w j
    → twice ≡ (sum + sum) % 2 ^ 64
    → (o : Bool) → odd (b / 2 ^ (w - 1 - j)) ≡ o → next ≡ cond o ((twice + a) % 2 ^ 64) twice
    → next % 2 ^ w ≡ partial a b w (j + 1)
unfolding partial
partial-next a b w j sum twice next u before doubled o bit_is added =
    ap (λ (v : ℕ). v % 2 ^ w) (added ∙ cut o)
    ∙ narrower w (2 * sum + cond o a 0) u
    ∙ sym (twice_mod sum (cond o a 0) (2 ^ w))
    ∙ ap₂ (λ (v : ℕ) (p : Bool). (2 * v + cond p a 0) % 2 ^ w) before (sym bit_is)
    ∙ ap (partial a b w) (sym (add-one j))
  where
    cut : (p : Bool) → cond p ((twice + a) % 2 ^ 64) twice ≡ (2 * sum + cond p a 0) % 2 ^ 64
    cut true = omega arith
    cut false = omega arith

-- All bits give the product.
pub partial-all : (a b w : ℕ) → partial a b w w ≡ a * b % 2 ^ w
partial-all a b w =
    partial-product a b w w (omega arith)
    ∙ ap (λ (v : ℕ). v % 2 ^ w) (ap (λ (v : ℕ). a * v) (top_all b w) ∙ mul_comm a (b % 2 ^ w))
    ∙ sym (mul_mod_first b a (2 ^ w)) ∙ ap (λ (v : ℕ). v % 2 ^ w) (mul_comm b a)
