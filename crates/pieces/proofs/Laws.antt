-- What the writer's functions need to know of the pieces of a line.
use mathlib.Core.Path.{◌≡◌, refl, sym, ap, ◌∙◌}
use mathlib.Core.Bool.{true, false, cond}
use mathlib.Core.List.{List, [], ◌∷◌, ◌++◌, append_assoc, append-nil}
use Prim.Native.Nat.{ℕ, zero, suc, ◌+◌, ◌<◌, ◌≤◌}
use native.Mathlib.Numerals.{add-one}
use lib.ListN.{get_or}
use borrow.Author.Tests.{lt-ltb, le-ltb}
use Rattle.logic.specs.Table.{tab}
use Rattle.engine.specs.Call as c
use Rattle.engine.specs.Encode.{Op, call_of, letters, suffixes, operation_at, count_at}
use Rattle.engine.specs.Encode as o
use Rattle.text.specs.Bytes.{ascii, decimal}
use Rattle.text.specs.Names.{letter_text, suffix_text, name_text}
use Rattle.call_list.specs.Literal.{payloads}
use Rattle.call_list.specs.Operations.{is_declare}
use Rattle.term_places.specs.Places.{place_near}
use Rattle.syntax.specs.Text.{operation_text}
use Rattle.pieces.specs.Text.{numbered, spelled_as, spaced, applied, conjunction}
use Rattle.pieces.specs.Shape.{name_of}
use Rattle.pieces.specs.Arguments.{reference_by}

-- A declared term is written by its name, any other by its number.
spelled_by : (op : Op) (n : ℕ) (a : ℕ → ℕ) (k : ℕ)
    → spelled_as k (call_of op n a) ≡ cond (is_declare op) (name_text (name_of a)) (numbered k)
spelled_by (o.term op) n a k = refl
spelled_by o.declare n a k = refl
spelled_by o.assert n a k = refl
spelled_by o.check n a k = refl
spelled_by o.unknown n a k = refl

-- A number that is neither 1 nor 2 is the first letter, and no suffix.
pub letter-first : (n : ℕ) → (n ≡ 1 → ⊥) → (n ≡ 2 → ⊥) → get_or letters n c.n ≡ c.n
letter-first zero one two = refl
letter-first (suc zero) one two = absurd (one refl)
letter-first (suc (suc zero)) one two = absurd (two refl)
letter-first (suc (suc (suc n))) one two = refl

pub suffix-none : (n : ℕ) → (n ≡ 1 → ⊥) → (n ≡ 2 → ⊥) → get_or suffixes n c.none ≡ c.none
suffix-none zero one two = refl
suffix-none (suc zero) one two = absurd (one refl)
suffix-none (suc (suc zero)) one two = absurd (two refl)
suffix-none (suc (suc (suc n))) one two = refl

-- The name that a record's arguments spell.
pub name_spelled : {letter index suffix : ℕ} (a : ℕ → ℕ) → (letter ∷ []) ≡ letter_text (get_or letters (a 0) c.n)
    → index ≡ a 1 → suffix ≡ a 2
    → (letter ∷ []) ++ decimal index ++ suffix_text (get_or suffixes suffix c.none) ≡ name_text (name_of a)
name_spelled {letter} {index} {suffix} a is-letter is-index is-suffix =
    ap (λ (l : List ℕ). l ++ decimal index ++ suffix_text (get_or suffixes suffix c.none)) is-letter
    ∙ rw (is-index, is-suffix)

-- k and a number have no suffix.
pub numbered-spelled : (k : ℕ) → (107 ∷ []) ++ decimal k ++ [] ≡ numbered k
numbered-spelled k = append-nil _

-- How a term is written by its record.
module _ (places : List ℕ) (gap : ℕ) (w : List ℕ) (terms term : ℕ) where
  pub reference-past : terms ≤ term → reference_by places gap w terms term ≡ numbered term
  reference-past h = rw (le-ltb term terms h)

  module _ (low : term < terms) {at : ℕ} (found : at ≡ place_near places gap w term) where
    by_operation : reference_by places gap w terms term
        ≡ cond (is_declare (operation_at w at)) (name_text (name_of (payloads w at))) (numbered term)
    by_operation = rw (lt-ltb term terms low, ← found)
        (spelled_by (operation_at w at) (count_at w at) (payloads w at) term)

    pub reference-declared : is_declare (operation_at w at) ≡ true
        → reference_by places gap w terms term ≡ name_text (name_of (payloads w at))
    reference-declared e = by_operation ∙ rw e

    pub reference-numbered : is_declare (operation_at w at) ≡ false → reference_by places gap w terms term ≡ numbered term
    reference-numbered e = by_operation ∙ rw e

-- Texts after others, and one text.
pub spaced_append : (a b : List (List ℕ)) → spaced (a ++ b) ≡ spaced a ++ spaced b
unfolding spaced
spaced_append [] b = refl
spaced_append (text ∷ a) b = rw (spaced_append a b) (sym (append_assoc (ascii " " ++ text) (spaced a) (spaced b)))

pub spaced-one : (text : List ℕ) → spaced (text ∷ []) ≡ ascii " " ++ text
unfolding spaced
spaced-one text = append-nil (ascii " " ++ text)

tab-more : {A : Type 0} (n : ℕ) (f : ℕ → A) → tab (suc n) f ≡ tab n f ++ (f n ∷ [])
unfolding tab
tab-more zero f = refl
tab-more (suc n) f = ap (λ l. f zero ∷ l) (tab-more n (λ i. f (suc i)))

-- One argument more.
pub spaced-more : (n : ℕ) (f : ℕ → List ℕ) → spaced (tab (n + 1) f) ≡ spaced (tab n f) ++ (ascii " " ++ f n)
spaced-more n f = rw (add-one n, tab-more n f, spaced_append, spaced-one)

pub spaced-none : (f : ℕ → List ℕ) → spaced (tab 0 f) ≡ []
unfolding spaced tab
spaced-none f = refl

-- An and of one argument, and of any other number of them.
module _ (f : ℕ → List ℕ) where
  pub conjunction-one : (n : ℕ) → n ≡ 1 → conjunction (tab n f) ≡ f 0
  unfolding tab
  conjunction-one n e = rw e

  pub conjunction-more : (n : ℕ) → (n ≡ 1 → ⊥)
      → conjunction (tab n f) ≡ applied (operation_text (o.term o.and)) (tab n f)
  unfolding tab
  conjunction-more zero e = refl
  conjunction-more (suc zero) e = absurd (e refl)
  conjunction-more (suc (suc n)) e = refl
