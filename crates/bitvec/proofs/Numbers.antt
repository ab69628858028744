-- Laws of bit vectors, proved once over the width: what bv2nat makes of each operation, as arithmetic on numbers.
-- Assumes nothing.
use Rattle.std.proofs.Common.{◌≡◌, ℕ, zero, suc, ◌+◌, ◌-◌, ◌*◌, ◌/◌, ◌%◌, ◌^◌, ◌<◌, ◌≤◌, min, max, Bool, true, false, cond, not, ◌&&◌, ◌||◌, eqb, leb, [], ◌∷◌, length, get_or, take, drop, sym, refl, ap, ◌∙◌, mul_comm, pow-suc, div-one, add-one, arith, eq-eqb, ne_eqb, leb-false, leb-true}
use mathlib.Core.Bool.{false≢true}
use native.Mathlib.Nat.{suc_inj, mod-one, zero-div, zero-mod, div-div-eq-div-mul}
use native.Mathlib.Nat.{div-eq_of_lt, div-eq_of_lt-le}
use lib.Bits.{bit_and, bit_or, bit_xor, and_step, or_step, xor_step}
use lib.Bits as digit
use lib.Pow.{mod-pow-add}
use Rattle.logic.specs.Table.{zip_with}
use Rattle.bitvec.specs.Bits.{Bits, bit, bv2nat, odd}
use Rattle.bitvec.specs.Ops as bv
use Rattle.bitvec.proofs.Laws.{half-bit, bv2nat-nat2bv, bv2nat_lt, bv2nat_inj, odd-bit}

-- ---- bit by bit: the kit's operations on numbers go by the same digits

low_bit : (b : Bool) (m : ℕ) → (bit b + 2 * m) % 2 ≡ bit b
low_bit true m = omega arith
low_bit false m = omega arith

-- One law for the three: op goes by digits, as f does by bits.
module _ (op g : ℕ → ℕ → ℕ) (f : Bool → Bool → Bool) (none : op 0 0 ≡ 0)
    (step : (a b : ℕ) → op a b ≡ op (a / 2) (b / 2) * 2 + g (a % 2) (b % 2))
    (digit : (a b : Bool) → bit (f a b) ≡ g (bit a) (bit b)) where
  bv2nat-zip_with : (s t : Bits) → length s ≡ length t → bv2nat (zip_with f s t) ≡ op (bv2nat s) (bv2nat t)
  unfolding bv2nat
  bv2nat-zip_with [] [] e = sym none
  bv2nat-zip_with [] (b ∷ t) e = absurd (omega arith)
  bv2nat-zip_with (a ∷ s) [] e = absurd (omega arith)
  bv2nat-zip_with (a ∷ s) (b ∷ t) e =
      rw (
        step (bit a + 2 * bv2nat s) (bit b + 2 * bv2nat t),
        half-bit a (bv2nat s),
        half-bit b (bv2nat t),
        low_bit a (bv2nat s),
        low_bit b (bv2nat t),
        bv2nat-zip_with s t (suc_inj e),
        ← digit a b,
      )
      (omega arith)

pub bv2nat-bvand : (s t : Bits) → length s ≡ length t → bv2nat (bv.bvand s t) ≡ bit_and (bv2nat s) (bv2nat t)
bv2nat-bvand = bv2nat-zip_with bit_and min ◌&&◌ refl and_step digits
  where
    digits : (a b : Bool) → bit (a && b) ≡ min (bit a) (bit b)
    digits true true = refl
    digits true false = refl
    digits false true = refl
    digits false false = refl

pub bv2nat-bvor : (s t : Bits) → length s ≡ length t → bv2nat (bv.bvor s t) ≡ bit_or (bv2nat s) (bv2nat t)
bv2nat-bvor = bv2nat-zip_with bit_or max ◌||◌ refl or_step digits
  where
    digits : (a b : Bool) → bit (a || b) ≡ max (bit a) (bit b)
    digits true true = refl
    digits true false = refl
    digits false true = refl
    digits false false = refl

pub bv2nat-bvxor : (s t : Bits) → length s ≡ length t → bv2nat (bv.bvxor s t) ≡ bit_xor (bv2nat s) (bv2nat t)
bv2nat-bvxor = bv2nat-zip_with bit_xor digit.differ bv.differ refl xor_step digits
  where
    digits : (a b : Bool) → bit (bv.differ a b) ≡ digit.differ (bit a) (bit b)
    digits true true = refl
    digits true false = refl
    digits false true = refl
    digits false false = refl

-- A vector and its complement add up to all ones.
pub bvnot-total : (s : Bits) → bv2nat (bv.bvnot s) + bv2nat s + 1 ≡ 2 ^ length s
unfolding bv2nat
bvnot-total [] = refl
bvnot-total (true ∷ s) = let h = bvnot-total s in omega (arith, pow-suc 2 (length s))
bvnot-total (false ∷ s) = let h = bvnot-total s in omega (arith, pow-suc 2 (length s))

pub bv2nat-bvnot : (s : Bits) → bv2nat (bv.bvnot s) ≡ 2 ^ length s - 1 - bv2nat s
bv2nat-bvnot s = let h = bvnot-total s in omega arith

-- ---- parts

pub bv2nat-concat : (s t : Bits) → bv2nat (bv.concat s t) ≡ bv2nat s * 2 ^ length t + bv2nat t
unfolding bv2nat
bv2nat-concat s [] = omega arith
bv2nat-concat s (b ∷ t) = rw (bv2nat-concat s t, pow-suc 2 (length t)) (omega arith)

half_cons : (b : Bool) (s : Bits) → bv2nat (b ∷ s) / 2 ≡ bv2nat s
unfolding bv2nat
half_cons b s = half-bit b (bv2nat s)

half-shift : (j : ℕ) (b : Bool) (s : Bits) → bv2nat (b ∷ s) / 2 ^ suc j ≡ bv2nat s / 2 ^ j
half-shift j b s =
    ap (λ (q : ℕ). bv2nat (b ∷ s) / q) (pow-suc 2 j ∙ mul_comm (2 ^ j) 2)
    ∙ sym (div-div-eq-div-mul (bv2nat (b ∷ s)) 2 (2 ^ j)) ∙ ap (λ (q : ℕ). q / 2 ^ j) (half_cons b s)

pub bv2nat-drop : (j : ℕ) (s : Bits) → bv2nat (drop j s) ≡ bv2nat s / 2 ^ j
bv2nat-drop zero s = sym (div-one (bv2nat s))
bv2nat-drop (suc j) [] = unfold bv2nat in (sym (zero-div (2 ^ suc j)))
bv2nat-drop (suc j) (b ∷ s) = bv2nat-drop j s ∙ sym (half-shift j b s)

pub bv2nat-take : (n : ℕ) (s : Bits) → bv2nat (take n s) ≡ bv2nat s % 2 ^ n
unfolding bv2nat
bv2nat-take zero s = sym (mod-one (bv2nat s))
bv2nat-take (suc n) [] = sym (zero-mod (2 ^ suc n))
bv2nat-take (suc n) (b ∷ s) =
    rw (
      bv2nat-take n s,
      ← add-one n,
      mod-pow-add (bit b + 2 * bv2nat s) n 1,
      half-bit b (bv2nat s),
      low_bit b (bv2nat s),
    )
    (omega arith)

pub bv2nat-extract : (i j : ℕ) (s : Bits) → bv2nat (bv.extract i j s) ≡ bv2nat s / 2 ^ j % 2 ^ (suc i - j)
bv2nat-extract i j s = bv2nat-take (suc i - j) (drop j s) ∙ ap (λ (v : ℕ). v % 2 ^ (suc i - j)) (bv2nat-drop j s)

-- Bit i is digit i of the number; past the width both are 0.
pub bit_at : (i : ℕ) (s : Bits) → get_or s i false ≡ odd (bv2nat s / 2 ^ i)
bit_at i [] = unfold bv2nat in (sym (ap odd (zero-div (2 ^ i))))
bit_at zero (b ∷ s) = unfold bv2nat in (sym (ap odd (div-one (bit b + 2 * bv2nat s)) ∙ odd-bit b (bv2nat s)))
bit_at (suc i) (b ∷ s) = bit_at i s ∙ ap odd (sym (half-shift i b s))

-- ---- sums and products, modulo 2 ^ width

pub bv2nat-bvadd : (s t : Bits) → bv2nat (bv.bvadd s t) ≡ (bv2nat s + bv2nat t) % 2 ^ length s
bv2nat-bvadd s t = bv2nat-nat2bv (length s) (bv2nat s + bv2nat t)

pub bv2nat-bvmul : (s t : Bits) → bv2nat (bv.bvmul s t) ≡ bv2nat s * bv2nat t % 2 ^ length s
bv2nat-bvmul s t = bv2nat-nat2bv (length s) (bv2nat s * bv2nat t)

-- ---- comparisons

pub equal-refl : (s : Bits) → bv.equal s s ≡ true
unfolding bv.equal
equal-refl [] = refl
equal-refl (true ∷ s) = equal-refl s
equal-refl (false ∷ s) = equal-refl s

pub equal_sound : (s t : Bits) → bv.equal s t ≡ true → s ≡ t
unfolding bv.equal
equal_sound [] [] e = refl
equal_sound [] (b ∷ t) e = absurd (false≢true e)
equal_sound (a ∷ s) [] e = absurd (false≢true e)
equal_sound (true ∷ s) (true ∷ t) e = ap (λ (r : Bits). true ∷ r) (equal_sound s t e)
equal_sound (true ∷ s) (false ∷ t) e = absurd (false≢true e)
equal_sound (false ∷ s) (true ∷ t) e = absurd (false≢true e)
equal_sound (false ∷ s) (false ∷ t) e = ap (λ (r : Bits). false ∷ r) (equal_sound s t e)

-- At one width equality is that of the numbers.
pub equal-eqb : (s t : Bits) → length s ≡ length t → bv.equal s t ≡ eqb (bv2nat s) (bv2nat t)
equal-eqb s t e = go (bv.equal s t) refl
  where
    go : (o : Bool) → bv.equal s t ≡ o → o ≡ eqb (bv2nat s) (bv2nat t)
    go true p = sym (eq-eqb (bv2nat s) (bv2nat t) (ap bv2nat (equal_sound s t p)))
    go false p =
        sym (ne_eqb (bv2nat s) (bv2nat t)
        (λ q. false≢true (sym p ∙ ap (bv.equal s) (sym (bv2nat_inj s t e q)) ∙ equal-refl s)))

pub bv2nat-bvcomp : (s t : Bits) → length s ≡ length t → bv2nat (bv.bvcomp s t) ≡ bit (eqb (bv2nat s) (bv2nat t))
unfolding bv2nat
bv2nat-bvcomp s t e = rw (equal-eqb s t e) (omega arith)

-- A test by its two outcomes.
by_leb : (P : Bool → Type 0) (a b : ℕ) → (a ≤ b → P true) → (b < a → P false) → P (leb a b)
by_leb P a b holds fails = go (leb a b) refl
  where
    go : (o : Bool) → leb a b ≡ o → P o
    go true e = holds (leb-true a b e)
    go false e = fails (leb-false a b e)

pub two_halves : (n : ℕ) → 0 < n → 2 ^ n ≡ 2 ^ (n - 1) * 2
two_halves n h = ap (λ (k : ℕ). 2 ^ k) (let e : n ≡ suc (n - 1) = omega arith in e) ∙ pow-suc 2 (n - 1)

-- The sign is whether the number lies in the upper half.
pub msb-leb : (s : Bits) → 0 < length s → bv.msb s ≡ leb (2 ^ (length s - 1)) (bv2nat s)
msb-leb s h = bit_at (length s - 1) s ∙ upper (bv2nat s) (2 ^ (length s - 1)) below
  where
    below : bv2nat s < 2 ^ (length s - 1) * 2
    below = omega (arith, bv2nat_lt s, two_halves (length s) h)

    upper : (v half : ℕ) → v < half * 2 → odd (v / half) ≡ leb half v
    upper v half l =
        by_leb (λ (o : Bool). odd (v / half) ≡ o) half v
        (λ up. let one : v / half ≡ 1 = div-eq_of_lt-le half (omega arith) (omega arith) in ap odd one)
        (λ down. ap odd (div-eq_of_lt down))

-- Under one sign the order is that of the numbers; under two the negative one is less.
pub bvslt_signs : (s t : Bits) → bv.bvslt s t ≡ cond (bv.same (bv.msb s) (bv.msb t)) (bv.bvult s t) (bv.msb s)
bvslt_signs s t = go (bv.msb s) (bv.msb t) (bv.bvult s t)
  where
    go : (a b o : Bool) → ((a && not b) || (bv.same a b && o)) ≡ cond (bv.same a b) o a
    go true true o = refl
    go true false o = refl
    go false true o = refl
    go false false o = refl
