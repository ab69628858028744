-- What the code needs to know of the marks that stand.
use mathlib.Core.Path.{◌≡◌, refl, sym, ap, ap₂, ◌∙◌}
use mathlib.Core.Bool.{Bool, true, false, cond, ◌&&◌, ◌||◌, or-false}
use mathlib.Core.List.{List, [], ◌∷◌}
use Prim.Native.Nat.{ℕ, zero, suc, ◌+◌, ◌<◌, ◌≤◌}
use native.Mathlib.Numerals.{add-one}
use native.Mathlib.Omega.{arith}
use lib.Dec.{eqb, eqb-suc-zero}
use lib.ListN.{length, drop, get_or, drop_of_length-le}
use lib.Seq.{drop-cons}
use borrow.Author.Tests.{eq-eqb, ne_eqb, lt-ltb}
use native.Mathlib.Decide.{ℕ_discrete}
use Rattle.engine.specs.Call.{Call}
use Rattle.engine.specs.Call as c
use Rattle.engine.specs.Encode.{Op, letter_number, suffix_number, letters, suffixes, operation_at, count_at, call_of, call_at}
use Rattle.engine.specs.Encode as o
use Rattle.text.specs.Names.{both_names}
use Rattle.call_list.specs.Literal.{payloads}
use Rattle.engine.specs.Sorts.{Context, start, after, leaves}
use Rattle.name_table.specs.Names.{name_entry, by_search}
use Rattle.name_table.specs.Named.{is_name, named, NamesTo}
use Rattle.call_list.specs.Operations.{is_declare}
use Rattle.pieces.specs.Shape.{name_of}
use Rattle.std.specs.Prelude.{Some, None}
use Rattle.asked.specs.Marks.{any, declares_name, all_declared, mark_stands, bad_mark, low_number, declared_by, pair_by}
use Rattle.asked.specs.Marks.{stands_by, bad_by}

-- A record declares a name if it is a declaration, by the name that its arguments spell.
declares_by : (op : Op) (n : ℕ) (a : ℕ → ℕ) (letter index suffix : ℕ)
    → declares_name letter index suffix (call_of op n a)
    ≡ cond (is_declare op) (is_name letter index suffix (name_of a)) false
declares_by (o.term op) n a letter index suffix = refl
declares_by o.declare n a letter index suffix = refl
declares_by o.assert n a letter index suffix = refl
declares_by o.check n a letter index suffix = refl
declares_by o.unknown n a letter index suffix = refl

pub declares-at : (w : List ℕ) (at letter index suffix : ℕ)
    → declares_name letter index suffix (call_at w at)
    ≡ cond (is_declare (operation_at w at)) (is_name letter index suffix (name_of (payloads w at))) false
declares-at w at letter index suffix = declares_by (operation_at w at) (count_at w at) (payloads w at) letter index suffix

-- The number of a letter or a suffix is the low number of its word.
pub letter-low : (n : ℕ) → letter_number (get_or letters n c.n) ≡ low_number n
letter-low zero = refl
letter-low (suc zero) = refl
letter-low (suc (suc zero)) = refl
letter-low (suc (suc (suc n))) =
    rw (ne_eqb (suc (suc (suc n))) 1 (λ e. omega arith), ne_eqb (suc (suc (suc n))) 2 (λ e. omega arith))

pub suffix-low : (n : ℕ) → suffix_number (get_or suffixes n c.none) ≡ low_number n
suffix-low zero = refl
suffix-low (suc zero) = refl
suffix-low (suc (suc zero)) = refl
suffix-low (suc (suc (suc n))) =
    rw (ne_eqb (suc (suc (suc n))) 1 (λ e. omega arith), ne_eqb (suc (suc (suc n))) 2 (λ e. omega arith))

and-true : (b : Bool) → (b && true) ≡ b
and-true true = refl
and-true false = refl

-- What each mark asks of the calls.
module _ (calls : List Call) (slot : ℕ) where
  pair-declared : (letter : c.Letter) → all_declared calls (both_names letter slot)
      ≡ (any (declares_name (letter_number letter) slot 1) calls && any (declares_name (letter_number letter) slot 2) calls)
  unfolding all_declared
  pair-declared letter = ap (λ (b : Bool). any (declares_name (letter_number letter) slot 1) calls && b) (and-true _)

  pub stands_current : (mark : ℕ) → mark ≡ 1
      → mark_stands calls slot mark ≡ (any (declares_name 0 slot 1) calls && any (declares_name 0 slot 2) calls)
  stands_current mark e = rw e (pair-declared c.n)

  pub stands_past : (mark : ℕ) → mark ≡ 2
      → mark_stands calls slot mark ≡ (any (declares_name 1 slot 1) calls && any (declares_name 1 slot 2) calls)
  stands_past mark e = rw e (pair-declared c.p)

  pub stands_none : (mark : ℕ) → (mark ≡ 1 → ⊥) → (mark ≡ 2 → ⊥) → mark_stands calls slot mark ≡ eqb mark 0
  unfolding all_declared
  stands_none zero one two = refl
  stands_none (suc zero) one two = absurd (one refl)
  stands_none (suc (suc zero)) one two = absurd (two refl)
  stands_none (suc (suc (suc n))) one two = rw (lt-ltb 2 (suc (suc (suc n))) (omega arith), eqb-suc-zero (suc (suc n)))

module _ (calls : List Call) (marks : List ℕ) (i : ℕ) where
  pub mark_fine : i < length marks → mark_stands calls i (get_or marks i 0) ≡ true
      → bad_mark calls i (drop i marks) ≡ bad_mark calls (i + 1) (drop (i + 1) marks)
  unfolding bad_mark
  mark_fine inside e = rw (drop-cons marks i 0 inside, e, add-one i)

  pub mark-bad : i < length marks → mark_stands calls i (get_or marks i 0) ≡ false → bad_mark calls i (drop i marks) ≡ Some i
  unfolding bad_mark
  mark-bad inside e = rw (drop-cons marks i 0 inside, e)

  pub marks-done : length marks ≤ i → bad_mark calls i (drop i marks) ≡ None
  unfolding bad_mark
  marks-done past = rw (drop_of_length-le marks past)

module _ (stands : ℕ → ℕ → Bool) (marks : List ℕ) (i : ℕ) where
  pub by_fine : i < length marks → stands i (get_or marks i 0) ≡ true
      → bad_by stands i (drop i marks) ≡ bad_by stands (i + 1) (drop (i + 1) marks)
  unfolding bad_by
  by_fine inside e = rw (drop-cons marks i 0 inside, e, add-one i)

  pub by_bad : i < length marks → stands i (get_or marks i 0) ≡ false → bad_by stands i (drop i marks) ≡ Some i
  unfolding bad_by
  by_bad inside e = rw (drop-cons marks i 0 inside, e)

  pub by_done : length marks ≤ i → bad_by stands i (drop i marks) ≡ None
  unfolding bad_by
  by_done past = rw (drop_of_length-le marks past)

-- ---- the table of names answers what the calls say

-- The names that calls leave are those before them and those that they declare.
names-left : (x : Context) (calls : List Call) (l i s : ℕ)
    → named (leaves x calls).names l i s ≡ (any (declares_name l i s) calls || named x.names l i s)
unfolding leaves any named
names-left x [] l i s = refl
names-left x (c.term t ∷ calls) l i s = names-left (after x (c.term t)) calls l i s
names-left x (c.declare name w ∷ calls) l i s =
    names-left (after x (c.declare name w)) calls l i s
    ∙ turn (any (declares_name l i s) calls) (is_name l i s name) (named x.names l i s)
  where
    turn : (a b d : Bool) → (a || (b || d)) ≡ ((b || a) || d)
    turn true true d = refl
    turn true false d = refl
    turn false true d = refl
    turn false false d = refl
names-left x (c.assert k ∷ calls) l i s = names-left (after x (c.assert k)) calls l i s
names-left x (c.check ∷ calls) l i s = names-left (after x c.check) calls l i s

module _ (declares : ℕ → ℕ → ℕ → Bool) (slot mark : ℕ) where
  by_one : mark ≡ 1 → stands_by declares slot mark ≡ pair_by declares 0 slot
  by_one e = rw e

  by_two : mark ≡ 2 → stands_by declares slot mark ≡ pair_by declares 1 slot
  by_two e = rw e

  by_none : (mark ≡ 1 → ⊥) → (mark ≡ 2 → ⊥) → stands_by declares slot mark ≡ eqb mark 0
  by_none e f = rw (ne_eqb mark 1 e, ne_eqb mark 2 f)

module _ (names : List ℕ) (calls : List Call) (named-to : NamesTo names (leaves start calls).names) where
  declared-is : (l i s : ℕ) → l ≤ 2 → s ≤ 2 → declared_by names calls l i s ≡ any (declares_name l i s) calls
  unfolding named
  declared-is l i s hl hs = go (name_entry names l i s) refl (ℕ_discrete (name_entry names l i s) 2)
    where
      go : (e : ℕ) → name_entry names l i s ≡ e → Dec (name_entry names l i s ≡ 2)
          → by_search (name_entry names l i s) (any (declares_name l i s) calls) ≡ any (declares_name l i s) calls
      go e f (yes q) = rw (eq-eqb (name_entry names l i s) 2 q)
      go e f (no q) =
          rw (ne_eqb (name_entry names l i s) 2 q)
          (named-to l i s hl hs q ∙ names-left start calls l i s ∙ or-false (any (declares_name l i s) calls))

  pair_is : (letter : ℕ) → letter ≤ 2 → (slot : ℕ)
      → pair_by (declared_by names calls) letter slot
      ≡ (any (declares_name letter slot 1) calls && any (declares_name letter slot 2) calls)
  pair_is letter low slot =
      ap₂ ◌&&◌ (declared-is letter slot 1 low (omega arith)) (declared-is letter slot 2 low (omega arith))

  stands_is : (slot mark : ℕ) → stands_by (declared_by names calls) slot mark ≡ mark_stands calls slot mark
  stands_is slot mark = go (ℕ_discrete mark 1) (ℕ_discrete mark 2)
    where
      go : Dec (mark ≡ 1) → Dec (mark ≡ 2) → stands_by (declared_by names calls) slot mark ≡ mark_stands calls slot mark
      go (yes e) d = by_one (declared_by names calls) slot mark e ∙ pair_is 0 (omega arith) slot
          ∙ sym (stands_current calls slot mark e)
      go (no e) (yes f) = by_two (declared_by names calls) slot mark f ∙ pair_is 1 (omega arith) slot
          ∙ sym (stands_past calls slot mark f)
      go (no e) (no f) = by_none (declared_by names calls) slot mark e f ∙ sym (stands_none calls slot mark e f)

  -- The first mark that does not stand, by the table, is the first by the calls.
  pub bad-is : (slot : ℕ) (marks : List ℕ) → bad_by (stands_by (declared_by names calls)) slot marks
      ≡ bad_mark calls slot marks
  unfolding bad_by bad_mark
  bad-is slot [] = refl
  bad-is slot (mark ∷ marks) = rw (stands_is slot mark, bad-is (suc slot) marks)
