-- Laws of the definitions of Values.
use mathlib.Core.Path.{◌≡◌, refl, sym, ap, ◌∙◌, subst}
use mathlib.Core.Bool.{Bool, true, false, cond, not, ◌&&◌}
use mathlib.Core.List.{List, [], ◌∷◌, map}
use Prim.Native.Nat.{ℕ, ◌≤◌}
use native.Mathlib.Omega.{arith}
use lib.ListN.{length}
use lib.Dec.{eqb}
use Rattle.bitvec.specs.Bits.{Bits, bit, bv2nat}
use Rattle.bitvec.specs.Ops as bv
use Rattle.bitvec.proofs.Numbers.{equal-eqb}
use Rattle.bitvec.proofs.WordLaws.{unary_on, binary_on, test_on, concat_on, extract_on}
use Rattle.engine.specs.Call.{Term}
use Rattle.engine.specs.Call as c
use Rattle.engine.specs.Meaning.{Value, bool, bits, as_bool, as_bits, all, equal_values, denote_op, denote_compare, denote}
use Rattle.engine.specs.Meaning.{value_at, All}
use Rattle.engine.specs.Sorts.{Sort, IsBool, IsVector, sort_at, WellSorted}
use Rattle.engine.proofs.SortsLaws.{OfSort}
use Rattle.engine.proofs.SortLaws.{Sorted, there}
use Rattle.term_values.specs.Values.{value_number, and_number, value_by}

is_one : (b : Bool) → eqb (bit b) 1 ≡ b
is_one true = refl
is_one false = refl

same_number : (a b : Bool) → eqb (bit a) (bit b) ≡ bv.same a b
same_number true true = refl
same_number true false = refl
same_number false true = refl
same_number false false = refl

either : (i a b : Bool) → cond i (bit a) (bit b) ≡ bit (cond i a b)
either true a b = refl
either false a b = refl

either_bits : (i : Bool) (x y : Bits) → cond i (bv2nat x) (bv2nat y) ≡ bv2nat (cond i x y)
either_bits true x y = refl
either_bits false x y = refl

not-number : (b : Bool) → cond b 0 1 ≡ bit (not b)
not-number true = refl
not-number false = refl

bool-number : {s : Sort} (v : Value) → OfSort s v → IsBool s → value_number v ≡ bit (as_bool v)
bool-number (bool b) h q = refl
bool-number (bits x) h q = absurd (omega arith)

bits-number : {s : Sort} (v : Value) → OfSort s v → IsVector s → (value_number v ≡ bv2nat (as_bits v))
    × (length (as_bits v) ≡ s)
bits-number (bool b) h q = absurd (omega arith)
bits-number (bits x) h q = (refl, h.1)

equal-number : (s : Sort) (u v : Value) → OfSort s u → OfSort s v → eqb (value_number u) (value_number v)
    ≡ equal_values u v
equal-number s (bool a) (bool b) h q = same_number a b
equal-number s (bool a) (bits y) h q = absurd (omega arith)
equal-number s (bits x) (bool b) h q = absurd (omega arith)
equal-number s (bits x) (bits y) h q = sym (equal-eqb x y (h.1 ∙ sym q.1))

module _ {sorts : List Sort} {l : List Value} (g : Sorted sorts l) (given : ℕ) where
  abbrev n : ℕ → ℕ
  n k = value_number (value_at l k)

  of_sort : (k : ℕ) → sort_at sorts k ≤ 64 → OfSort (sort_at sorts k) (value_at l k)
  of_sort k h = g.each k (there sorts k h)

  bool_at : (k : ℕ) → IsBool (sort_at sorts k) → n k ≡ bit (as_bool (value_at l k))
  bool_at k h = bool-number (value_at l k) (of_sort k (omega arith)) h

  one_at : (k : ℕ) → IsBool (sort_at sorts k) → eqb (n k) 1 ≡ as_bool (value_at l k)
  one_at k h = ap (λ (m : ℕ). eqb m 1) (bool_at k h) ∙ is_one (as_bool (value_at l k))

  bits_at : (k : ℕ) → IsVector (sort_at sorts k)
      → (n k ≡ bv2nat (as_bits (value_at l k))) × (length (as_bits (value_at l k)) ≡ sort_at sorts k)
  bits_at k h = bits-number (value_at l k) (of_sort k h.1) h

  all-at : (args : List ℕ) → All (λ a. IsBool (sort_at sorts a)) args
      → and_number n args ≡ bit (all (map (λ k. as_bool (value_at l k)) args))
  all-at [] h = refl
  all-at (a ∷ args) h = rw (one_at a h.0) (go (as_bool (value_at l a)) (all-at args h.1))
    where
      go : (b : Bool) → and_number n args ≡ bit (all (map (λ k. as_bool (value_at l k)) args))
          → cond b (and_number n args) 0 ≡ bit (b && all (map (λ k. as_bool (value_at l k)) args))
      go true e = e
      go false e = refl

  -- The number of a well-sorted term is that of its value.
  pub value-is : (t : Term) → WellSorted sorts t → value_by (sort_at sorts) n bv2nat given (c.term t)
      ≡ value_number (denote (value_at l) t)
  value-is (c.bool_lit b) h = refl
  value-is (c.bool_ite i a b) h =
      rw (one_at i h.0, bool_at a h.1, bool_at b h.2) (either (as_bool (value_at l i)) _ _)
  value-is (c.not a) h = rw (one_at a h) (not-number (as_bool (value_at l a)))
  value-is (c.and args) h = all-at args h.1
  value-is (c.lit x) h = refl
  value-is (c.equal a b) h =
      ap bit (equal-number (sort_at sorts a) (value_at l a) (value_at l b) (of_sort a h.0)
      (subst (λ (s : Sort). OfSort s (value_at l b)) h.1 (of_sort b (omega arith))))
  value-is (c.ite i a b) h =
      let at_b = bits_at b (subst IsVector (sym h.2) h.1) in
      rw (one_at i h.0, (bits_at a h.1).0, at_b.0) (either_bits (as_bool (value_at l i)) _ _)
  value-is (c.concat a b) h =
      let at_a = bits_at a h.0 in
      let at_b = bits_at b (omega arith) in
      rw (at_a.0, at_b.0)
      (concat_on (sort_at sorts a) (sort_at sorts b) (as_bits (value_at l a)) (as_bits (value_at l b)) h.0.0 h.1 h.2
      at_a.1 at_b.1)
  value-is (c.extract i j a) h =
      let at_a = bits_at a (omega arith) in
      rw at_a.0 (extract_on (sort_at sorts a) i j (as_bits (value_at l a)) h.3 h.2 h.1 at_a.1)
  value-is (c.bvnot a) h =
      let at_a = bits_at a h in
      rw at_a.0 (unary_on (sort_at sorts a) (as_bits (value_at l a)) h.0 h.1 at_a.1 bv.bvnot)
  value-is (c.op2 o a b) h =
      let at_a = bits_at a h.0 in
      let at_b = bits_at b (subst IsVector (sym h.1) h.0) in
      rw (at_a.0, at_b.0)
      (binary_on (sort_at sorts a) (as_bits (value_at l a)) h.0.0 h.0.1 at_a.1 (as_bits (value_at l b))
      (at_b.1 ∙ h.1) (denote_op o))
  value-is (c.compare o a b) h =
      let at_a = bits_at a h.0 in
      let at_b = bits_at b (subst IsVector (sym h.1) h.0) in
      rw (at_a.0, at_b.0)
      (ap bit (test_on (sort_at sorts a) (as_bits (value_at l a)) h.0.0 h.0.1 at_a.1 (as_bits (value_at l b))
      (at_b.1 ∙ h.1) (denote_compare o)))
