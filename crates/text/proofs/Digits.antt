-- A number's digits stored from the last one on.
use mathlib.Core.Path.{◌≡◌, refl, sym, ap, ◌∙◌}
use mathlib.Core.List.{List, [], ◌∷◌, ◌++◌, append-nil, append_assoc}
use Prim.Native.Nat.{ℕ, ◌+◌, ◌-◌, ◌/◌, ◌%◌, ◌<◌, ◌≤◌}
use native.Mathlib.Omega.{arith}
use lib.ListN.{length, set, length-set}
use Rattle.engine.specs.Emit.{overwrite}
use Rattle.text.specs.Bytes.{decimal}
use Rattle.text.proofs.BytesLaws.{decimal_digit, decimal-more, length-one, length_more}
use Rattle.text.proofs.Write.{overwrite-none, overwrite-first}

-- The number is written as what is left of it and then the digits stored, which stand from a place on.
pub record Stored (text₀ : List ℕ) (at n : ℕ) (text : List ℕ) (left end : ℕ) : Type 0 where
  pub digits : List ℕ
  pub whole : decimal n ≡ decimal left ++ digits
  pub place : end ≡ at + length (decimal left)
  pub long : length text ≡ length text₀
  pub stored : text ≡ overwrite text₀ end digits

pub stored-none : (text : List ℕ) (at n count : ℕ) → count ≡ length (decimal n) → Stored text at n text n (at + count)
stored-none text at n count is = record {
  digits = [];
  whole = sym (append-nil (decimal n));
  place = ap (λ (k : ℕ). at + k) is;
  long = refl;
  stored = sym (overwrite-none text (at + count));
}

module _ {text₀ text : List ℕ} {at n left end : ℕ} (here : Stored text₀ at n text left end) where
  -- There is a place before the digits for another.
  pub stored-before : 10 ≤ left → 1 ≤ end
  stored-before large = let more = length_more left large in omega (arith, here.place)

  pub stored_more : 10 ≤ left → Stored text₀ at n (set text (end - 1) (48 + left % 10)) (left / 10) (end - 1)
  stored_more large =
      let more = length_more left large in
      let next : end - 1 + 1 ≡ end = omega (arith, here.place) in
      record {
        digits = (48 + left % 10) ∷ here.digits;
        whole = here.whole ∙ ap (λ (l : List ℕ). l ++ here.digits) (decimal-more left large)
            ∙ append_assoc (decimal (left / 10)) ((48 + left % 10) ∷ []) here.digits;
        place = omega (arith, here.place);
        long = length-set text (end - 1) (48 + left % 10) ∙ here.long;
        stored =
            ap (λ (l : List ℕ). set l (end - 1) (48 + left % 10))
            (here.stored ∙ ap (λ (k : ℕ). overwrite text₀ k here.digits) (sym next))
            ∙ overwrite-first text₀ (end - 1) (48 + left % 10) here.digits;
      }

  -- The first digit is the last to be stored.
  pub stored-all : left < 10 → set text at (48 + left) ≡ overwrite text₀ at (decimal n)
  stored-all small =
      let one = length-one left small in
      let next : end ≡ at + 1 = omega (arith, here.place) in
      ap (λ (l : List ℕ). set l at (48 + left)) (here.stored ∙ ap (λ (k : ℕ). overwrite text₀ k here.digits) next)
      ∙ overwrite-first text₀ at (48 + left) here.digits
      ∙ ap (overwrite text₀ at) (sym (here.whole ∙ ap (λ (l : List ℕ). l ++ here.digits) (decimal_digit left small)))

-- What a turn of the loop goes by.
pub ruleset turns = (stored-none, stored_more)
