-- What the functions need to know of literals and sorts.
use mathlib.Core.Path.{◌≡◌, refl, sym}
use mathlib.Core.Bool.{Bool, true, false, cond}
use mathlib.Core.List.{[], ◌∷◌, ◌++◌}
use Prim.Native.Nat.{ℕ, zero, suc, ◌+◌, ◌-◌, ◌/◌, ◌%◌}
use native.Mathlib.Numerals.{sub-one}
use native.Mathlib.Omega.{arith}
use lib.Dec.{eqb}
use borrow.Author.Tests.{eqb-true, eqb-false}
use Rattle.bitvec.specs.Bits.{bit, odd, nat2bv}
use Rattle.text.specs.Bytes.{ascii, decimal}
use Rattle.syntax.specs.Text.{sort_text, bits_text}

-- A literal's digits, the last one last.
pub bits_none : (n width : ℕ) → width ≡ 0 → bits_text (nat2bv width n) ≡ []
unfolding bits_text nat2bv
bits_none n width e = rw e

bit-odd : (n : ℕ) → bit (odd n) ≡ n % 2
bit-odd n = go (eqb (n % 2) 1) refl
  where
    go : (b : Bool) → eqb (n % 2) 1 ≡ b → cond (eqb (n % 2) 1) 1 0 ≡ n % 2
    go true e = rw e (sym (eqb-true (n % 2) 1 e))
    go false e = let zero_bit : n % 2
        ≡ 0 = (let no : n % 2 ≡ 1 → ⊥ = eqb-false (n % 2) 1 e in omega arith) in rw (e, zero_bit)

pub bits-more : (n width : ℕ) → (width ≡ 0 → ⊥)
    → bits_text (nat2bv width n) ≡ bits_text (nat2bv (width - 1) (n / 2)) ++ ((48 + n % 2) ∷ [])
unfolding bits_text nat2bv
bits-more n zero h = absurd (h refl)
bits-more n (suc width) h = rw (bit-odd n, sub-one (suc width))

-- A sort that is no Bool's.
pub sort-vector : (w : ℕ) → (w ≡ 0 → ⊥) → sort_text w ≡ ascii "(_ BitVec " ++ decimal w ++ ascii ")"
sort-vector zero h = absurd (h refl)
sort-vector (suc n) h = refl
