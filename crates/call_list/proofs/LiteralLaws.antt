-- Laws of the definitions of Literal.
use mathlib.Core.Path.{◌≡◌, refl}
use mathlib.Core.Bool.{Bool, true, false, cond, ◌&&◌}
use mathlib.Core.List.{List}
use Prim.Native.Nat.{ℕ, zero, suc, ◌+◌, ◌-◌, ◌*◌, ◌^◌, ◌<◌, ◌≤◌, min, zero-le}
use native.Mathlib.Nat.{mod-eq_of_lt, min-le_left, lt_of_lt_of_le}
use native.Mathlib.Omega.{arith}
use lib.Dec.{eqb, ltb, leb, eqb-suc-zero}
use lib.Pow.{pow_mono}
use borrow.Author.Tests.{leb-true, eqb-true, ltb-true}
use Rattle.logic.specs.Table.{tab}
use Rattle.logic.specs.Word.{payload_of}
use Rattle.engine.specs.Sorts.{Sort, Context}
use Rattle.engine.specs.Encode.{digit_count, operation_at, count_at, bare, argument_at, from_digits}
use Rattle.engine.specs.Encode as o
use Rattle.engine.specs.WellFormed.{is_width, is_number, is_vector, count_fits, admits, argument_of, admitted}
use Rattle.engine.proofs.Tests.{right_of}
use Rattle.engine.proofs.Steps.{failing_free}
use Rattle.engine.proofs.ReadBack.{stands}
use Rattle.engine.specs.Reached.{Right}
use Rattle.call_list.specs.Literal.{payloads, LiteralFits, digit_or, joined, four_digits, literal_number}

pub joined-digits : (a : ℕ → ℕ) (n : ℕ) → n ≤ 5 → ((j : ℕ) → suc j < n → a (suc j) < 2 ^ 16)
    → joined (digit_or a n 0) (digit_or a n 1) (digit_or a n 2) (digit_or a n 3) ≡ from_digits (tab (n - 1) (λ i. a (suc i)))
unfolding from_digits tab
joined-digits a zero few low = refl
joined-digits a (suc zero) few low = refl
joined-digits a (suc (suc zero)) few low = rw (mod-eq_of_lt (low 0 (omega arith))) (omega arith)
joined-digits a (suc (suc (suc zero))) few low =
    rw (mod-eq_of_lt (low 0 (omega arith)), mod-eq_of_lt (low 1 (omega arith))) (omega arith)
joined-digits a (suc (suc (suc (suc zero)))) few low =
    rw (mod-eq_of_lt (low 0 (omega arith)), mod-eq_of_lt (low 1 (omega arith)), mod-eq_of_lt (low 2 (omega arith)))
    (omega arith)
joined-digits a (suc (suc (suc (suc (suc zero))))) few low =
    rw (
      mod-eq_of_lt (low 0 (omega arith)),
      mod-eq_of_lt (low 1 (omega arith)),
      mod-eq_of_lt (low 2 (omega arith)),
      mod-eq_of_lt (low 3 (omega arith)),
    )
    (omega arith)
joined-digits a (suc (suc (suc (suc (suc (suc n)))))) few low = absurd (omega arith)

pub four_digits_lem : (w : List ℕ) (head : ℕ) → LiteralFits w head → four_digits w head ≡ literal_number w head
four_digits_lem w head fits = joined-digits (payloads w head) (count_at w head) fits.few fits.low

-- ---- A literal that stands in a list has its numbers.

few-arguments : (n first : ℕ) → count_fits (o.term o.lit) n first ≡ true → n ≤ 5
few-arguments n first h = go (is_width first) refl h
  where
    go : (wide : Bool) → is_width first ≡ wide →
        cond wide (eqb n (1 + digit_count (payload_of first))) (leb 2 n && leb n 5) ≡ true → n ≤ 5
    go true w h =
        let counted = eqb-true n (1 + digit_count (payload_of first)) h in
        let vector = right_of (is_number first) (is_vector (payload_of first)) w in
        let narrow =
        leb-true (payload_of first) 64 (right_of (leb 1 (payload_of first)) (leb (payload_of first) 64) vector) in
        omega arith
    go false w h = leb-true n 5 (right_of (leb 2 n) (leb n 5) h)

low_digit : (j first before word : ℕ) (sb s : Sort)
    → admits (argument_of (o.term o.lit) (suc j)) first before word sb s ≡ true → payload_of word < 2 ^ 16
low_digit j first before word sb s h =
    let left = payload_of first - 16 * (suc j - 1) in
    let digit : (is_number word && ltb (payload_of word) (2 ^ min 16 left)) ≡ true = rw (eqb-suc-zero j) at h in
    let below =
    ltb-true (payload_of word) (2 ^ min 16 left)
    (right_of (is_number word) (ltb (payload_of word) (2 ^ min 16 left)) digit) in
    lt_of_lt_of_le below (pow_mono {i = min 16 left} {j = 16} (min-le_left 16 left))

pub literal_fits : (w : List ℕ) (at : ℕ) (x : Context) → Right w at x → operation_at w at ≡ o.term o.lit
    → LiteralFits w at
literal_fits w at x right is-lit =
    let each = failing_free (admitted x.sorts w at) 0 (count_at w at) right.arguments in
    record {
      few = few-arguments (count_at w at) (argument_at bare w at 0)
          (rw is-lit at (stands x w at right.head).counted);
      low = λ j inside.
          low_digit j (argument_at bare w at 0) _ _ _ _ (rw is-lit at (each (suc j) zero-le (omega arith)));
    }
