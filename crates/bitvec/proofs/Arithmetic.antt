-- Numbers modulo powers of two: what the proofs of this crate need beyond the kit. Assumes nothing.
use Rattle.std.proofs.Common.{◌≡◌, ℕ, suc, ◌+◌, ◌-◌, ◌*◌, ◌/◌, ◌%◌, ◌^◌, ◌<◌, ◌≤◌, sym, ap, ◌∙◌, subst, mod-lt, mul_comm, div-lt_iff_lt-mul, add-mul, one-mul, div-add-mod', sub-add_cancel, mul_right_comm, arith, shl_exact}
use native.Mathlib.Nat.{mul-add-mod_self_right, le_dest}
use lib.Arith.{digits_mod}
use lib.Pow.{field, mod-mod-pow}

-- 1 << w
pub one_shl : (w : ℕ) → w < 64 → (1 * 2 ^ w) % 2 ^ 64 ≡ 2 ^ w
one_shl w h = shl_exact {a = 1} 1 w 64 (omega arith) (omega arith) ∙ one-mul (2 ^ w)

-- A number cut to 64 bits is the same at every width up to 64.
pub narrower : (w x : ℕ) → w ≤ 64 → x % 2 ^ 64 % 2 ^ w ≡ x % 2 ^ w
narrower w x u = subst (λ (k : ℕ). x % 2 ^ k % 2 ^ w ≡ x % 2 ^ w) (sub-add_cancel u) (mod-mod-pow x (64 - w) w)

-- A product modulo m is that of the factors modulo m.
pub mul_mod_first : (a b m : ℕ) → a * b % m ≡ a % m * b % m
mul_mod_first a b m =
    ap (λ (v : ℕ). v * b % m) (sym (div-add-mod' a m))
    ∙ ap (λ (v : ℕ). v % m) (add-mul (a / m * m) (a % m) b ∙ ap (λ (v : ℕ). v + a % m * b) (mul_right_comm (a / m) m b))
    ∙ mul-add-mod_self_right (a / m * b) m (a % m * b)

pub mul_mod : (a b m : ℕ) → a * b % m ≡ a % m * (b % m) % m
mul_mod a b m =
    mul_mod_first a b m
    ∙ ap (λ (v : ℕ). v % m) (mul_comm (a % m) b)
    ∙ mul_mod_first b (a % m) m
    ∙ ap (λ (v : ℕ). v % m) (mul_comm (b % m) (a % m))

-- The complement in p * m numbers is the complement in m, of what is left modulo m.
pub complement_mod : (m p s : ℕ) → 0 < m → s < p * m → (p * m - 1 - s) % m ≡ m - 1 - s % m
complement_mod m p s pos h =
    let more = le_dest ((div-lt_iff_lt-mul pos).1 h) in
    let p-is : (suc (s / m) + more.0) * m ≡ p * m = ap (λ (q : ℕ). q * m) more.1 in
    let s-is : s / m * m + s % m ≡ s = div-add-mod' s m in
    let below : s % m < m = mod-lt s pos in
    ap (λ (v : ℕ). v % m) (split (p * m) (s / m) more.0 s (s % m) p-is s-is below)
    ∙ digits_mod more.0 (omega arith)
  where
    split : (n q k s r : ℕ) → (suc q + k) * m ≡ n → q * m + r ≡ s → r < m → n - 1 - s ≡ k * m + (m - 1 - r)
    split n q k s r e f l = omega arith

-- k bits from j on that lie within the width w are those of the whole number.
pub within : (w j k s : ℕ) → k + j ≤ w → s % 2 ^ w / 2 ^ j % 2 ^ k ≡ s / 2 ^ j % 2 ^ k
within w j k s h =
    ap (λ (n : ℕ). s % 2 ^ n / 2 ^ j % 2 ^ k) (let e : w ≡ w - j - k + k + j = omega arith in e)
    ∙ ap (λ (v : ℕ). v % 2 ^ k) (field s (w - j - k + k) j)
    ∙ mod-mod-pow (s / 2 ^ j) (w - j - k) k
