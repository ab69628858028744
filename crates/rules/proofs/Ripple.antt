-- Adc is ripple carry: each bit is the Xor of the operands' bits and the carry into it.
use mathlib.Core.Path.{◌≡◌, refl, sym, ap, ap₂, ◌∙◌}
use mathlib.Core.Bool.{Bool, true, false, cond, ◌||◌, true≢false}
use mathlib.Core.List.{List, [], ◌∷◌}
use Prim.Native.Nat.{ℕ, suc, ◌+◌, ◌*◌, ◌/◌, ◌^◌}
use native.Mathlib.Nat.{suc_inj, suc-ne-zero, suc-add, pow-succ', div-div-eq-div-mul}
use native.Mathlib.Numerals.{add-one}
use native.Mathlib.Omega.{arith}
use lib.Dec.{T, eqb, ltb, eqb→eq}
use lib.ListN.{length, take}
use Rattle.logic.specs.Table.{tab}
use Rattle.logic.proofs.TableLaws.{tab_ext}
use Rattle.logic.specs.declared.Trit.{Trit}
use Rattle.logic.specs.declared.Trit.TheVariants.{Zero, One, Undef}
use Rattle.rules.specs.Trits as t
use Rattle.rules.specs.Trits.{is_x, any_x, digit, number, bit_at, trit}
use Rattle.rules.specs.Rules as r
use Rattle.rules.proofs.Cases.{all₃}
use Rattle.rules.proofs.Number.{bit_at-low}
use Rattle.rules.proofs.RefineLaws.{equal₃}

-- The carry out of a position: X if one of the three is, else 1 where two are.
unfoldable pub carry : Trit → Trit → Trit → Trit
carry x y c = cond (is_x x || (is_x y || is_x c)) Undef (trit (ltb 1 (digit x + digit y + digit c)))

-- Of two vectors of one width; the top bit is the last carry.
unfoldable pub ripple : List Trit → List Trit → Trit → List Trit
ripple [] [] c = c ∷ []
ripple [] (y ∷ b) c = []
ripple (x ∷ a) [] c = []
ripple (x ∷ a) (y ∷ b) c = t.xor x (t.xor y c) ∷ ripple a b (carry x y c)

-- ---- One position: what is added there is its bit and twice the carry.
sum-bit : (x y c : Trit)
    → cond (is_x c || ((is_x x || false) || (is_x y || false))) Undef (bit_at (digit x + digit y + digit c) 0)
    ≡ t.xor x (t.xor y c)
sum-bit = equal₃ _ _ tt

carry_X : (x y c : Trit) → is_x (carry x y c) ≡ (is_x x || (is_x y || is_x c))
unfolding carry
carry_X x y c = go (is_x x || (is_x y || is_x c)) (ltb 1 (digit x + digit y + digit c))
  where
    go : (u v : Bool) → is_x (cond u Undef (trit v)) ≡ u
    go true v = refl
    go false true = refl
    go false false = refl

carry_digit : (x y c : Trit) → is_x (carry x y c) ≡ false → (digit x + digit y + digit c) / 2 ≡ digit (carry x y c)
unfolding carry
carry_digit x y c =
    unless (is_x (carry x y c)) _ _
    (all₃ (λ x y c. is_x (carry x y c) || eqb (half x y c) (digit (carry x y c))) tt x y c)
  where
    half : Trit → Trit → Trit → ℕ
    half x y c = (digit x + digit y + digit c) / 2

    unless : (u : Bool) (m n : ℕ) → T (u || eqb m n) → u ≡ false → m ≡ n
    unless true m n h e = absurd (true≢false e)
    unless false m n h e = eqb→eq m n h

half-sum : (i x y c na nb : ℕ) → bit_at ((x + 2 * na) + (y + 2 * nb) + c) (suc i) ≡ bit_at (na + nb + (x + y + c) / 2) i
half-sum i x y c na nb = rw (pow-succ' 2 i, ← div-div-eq-div-mul ((x + 2 * na) + (y + 2 * nb) + c) 2 (2 ^ i), half)
  where
    half : ((x + 2 * na) + (y + 2 * nb) + c) / 2 ≡ na + nb + (x + y + c) / 2
    half = omega arith

shuffle : (p q r a b : Bool) → (p || ((q || a) || (r || b))) ≡ ((q || (r || p)) || (a || b))
shuffle true true r a b = refl
shuffle true false true a b = refl
shuffle true false false a b = refl
shuffle false true r a b = refl
shuffle false false true true b = refl
shuffle false false true false b = refl
shuffle false false false a b = refl

low_bit : (x y : Trit) (a b : List Trit) (c : Trit) → r.adc_bit (x ∷ a) (y ∷ b) c 0 ≡ t.xor x (t.xor y c)
unfolding any_x number
low_bit x y a b c = rw (even, bit_at-low 0 (digit x + digit y + digit c) (number a + number b)) (sum-bit x y c)
  where
    even : digit x + 2 * number a + (digit y + 2 * number b) + digit c
        ≡ digit x + digit y + digit c + 2 * (number a + number b)
    even = omega arith

higher_bit : (i : ℕ) (x y : Trit) (a b : List Trit) (c : Trit)
    → r.adc_bit (x ∷ a) (y ∷ b) c (suc i) ≡ r.adc_bit a b (carry x y c) i
unfolding any_x number
higher_bit i x y a b c =
    rw (
      suc-add i 1,
      half-sum i (digit x) (digit y) (digit c) (number a) (number b),
      shuffle (is_x c) (is_x x) (is_x y) (any_x (take (i + 1) a)) (any_x (take (i + 1) b)),
      ← carry_X x y c,
    )
    (go (is_x (carry x y c)) refl (any_x (take (i + 1) a) || any_x (take (i + 1) b)))
  where
    go : (u : Bool) → is_x (carry x y c) ≡ u → (v : Bool)
        → cond (u || v) Undef (bit_at (number a + number b + (digit x + digit y + digit c) / 2) i)
        ≡ cond (u || v) Undef (bit_at (number a + number b + digit (carry x y c)) i)
    go true e v = refl
    go false e v = rw (carry_digit x y c e)

adc_cons : (x y : Trit) (a b : List Trit) (c : Trit)
    → r.adc (x ∷ a) (y ∷ b) c ≡ t.xor x (t.xor y c) ∷ r.adc a b (carry x y c)
unfolding tab
adc_cons x y a b c =
    rw (add-one (suc (length a)), add-one (length a)) (ap₂ (λ (u : Trit) (l : List Trit). u ∷ l) (low_bit x y a b c)
    (tab_ext (suc (length a)) _ (r.adc_bit a b (carry x y c)) λ i _. higher_bit i x y a b c))

pub adc_ripple : (a b : List Trit) (c : Trit) → length a ≡ length b → r.adc a b c ≡ ripple a b c
unfolding tab any_x number ripple
adc_ripple [] [] Zero e = refl
adc_ripple [] [] One e = refl
adc_ripple [] [] Undef e = refl
adc_ripple [] (y ∷ b) c e = absurd (suc-ne-zero (length b) (sym e))
adc_ripple (x ∷ a) [] c e = absurd (suc-ne-zero (length a) e)
adc_ripple (x ∷ a) (y ∷ b) c e =
    adc_cons x y a b c ∙ ap (λ (l : List Trit). t.xor x (t.xor y c) ∷ l) (adc_ripple a b (carry x y c) (suc_inj e))
