-- Laws of the definitions of Bytes.
use mathlib.Core.Path.{◌≡◌, refl, ap}
use mathlib.Core.Bool.{Bool, true, false}
use mathlib.Core.List.{List, [], ◌∷◌, ◌++◌}
use Prim.Native.Nat.{ℕ, zero, suc, ◌+◌, ◌/◌, ◌%◌, ◌<◌, ◌≤◌, ◌^◌}
use native.Mathlib.Omega.{arith}
use native.Mathlib.Nat.{pow-suc}
use lib.Dec.{ltb}
use lib.ListN.{length, length-append}
use borrow.Author.Tests.{lt-ltb, le-ltb, ltb-true, ltb-false}
use Rattle.text.specs.Bytes.{digits, decimal}

-- Any count above the number is enough.
enough : (f g n : ℕ) → n < f → n < g → digits f n ≡ digits g n
unfolding digits
enough zero g n p q = let z : ⊥ = omega arith in elim z [ ]
enough (suc f) zero n p q = let z : ⊥ = omega arith in elim z [ ]
enough (suc f) (suc g) n p q =
    go (ltb n 10) refl (λ large. enough f g (n / 10) (omega arith) (omega arith))
  where
    go : (small : Bool) → ltb n 10 ≡ small → (10 ≤ n → digits f (n / 10) ≡ digits g (n / 10))
        → digits (suc f) n ≡ digits (suc g) n
    go true e same = rw e
    go false e same = rw (e, same (ltb-false _ _ e))

-- A number below ten is its digit; any other is the decimal of its tenth and a digit more.
pub decimal_digit : (n : ℕ) → n < 10 → decimal n ≡ (48 + n) ∷ []
unfolding decimal digits
decimal_digit n small = rw (lt-ltb n 10 small)

pub decimal-more : (n : ℕ) → 10 ≤ n → decimal n ≡ decimal (n / 10) ++ ((48 + n % 10) ∷ [])
unfolding decimal digits
decimal-more n large =
    rw (le-ltb n 10 large)
    (ap (λ (l : List ℕ). l ++ ((48 + n % 10) ∷ [])) (enough n (suc (n / 10)) (n / 10) (omega arith) (omega arith)))

-- One digit more than the tenth has.
pub length_more : (n : ℕ) → 10 ≤ n → length (decimal n) ≡ length (decimal (n / 10)) + 1
length_more n large = rw (decimal-more n large, length-append)

-- How many digits a number has: by its bounds, and by its ten-thousandth.
pub length-one : (n : ℕ) → n < 10 → length (decimal n) ≡ 1
length-one n small = rw (decimal_digit n small)

pub length_two : (n : ℕ) → 10 ≤ n → n < 100 → length (decimal n) ≡ 2
length_two n large small = rw (length_more n large, length-one (n / 10) (omega arith))

pub length_three : (n : ℕ) → 100 ≤ n → n < 1000 → length (decimal n) ≡ 3
length_three n large small = rw (length_more n (omega arith), length_two (n / 10) (omega arith) (omega arith))

pub length_four : (n : ℕ) → 1000 ≤ n → n < 10000 → length (decimal n) ≡ 4
length_four n large small = rw (length_more n (omega arith), length_three (n / 10) (omega arith) (omega arith))

pub length_above : (n : ℕ) → 10000 ≤ n → length (decimal n) ≡ 4 + length (decimal (n / 10000))
length_above n large =
    let fourth : n / 10 / 10 / 10 / 10 ≡ n / 10000 = omega arith in
    rw (
      length_more n (omega arith),
      length_more (n / 10) (omega arith),
      length_more (n / 10 / 10) (omega arith),
      length_more (n / 10 / 10 / 10) (omega arith),
      fourth,
    )
    (omega arith)

-- A number below 10 ^ k has at most k digits.
pub decimal-length : (k n : ℕ) → n < 10 ^ suc k → length (decimal n) ≤ suc k
decimal-length zero n low = rw (decimal_digit n low) (omega arith)
decimal-length (suc k) n low = go (ltb n 10) refl (λ below. decimal-length k (n / 10) below)
  where
    go : (small : Bool) → ltb n 10 ≡ small → (n / 10 < 10 ^ suc k → length (decimal (n / 10)) ≤ suc k)
        → length (decimal n) ≤ suc (suc k)
    go true e ih = rw (decimal_digit n (ltb-true _ _ e)) (omega arith)
    go false e ih =
        let power = pow-suc 10 (suc k) in
        let shorter = ih (omega arith) in
        rw (decimal-more n (ltb-false _ _ e), length-append) (omega arith)

-- How many digits a number has.
pub ruleset lengths = (length-one, length_two, length_three, length_four, length_above, decimal-length)
