-- Laws of the faults of a record.
use mathlib.Core.Path.{◌≡◌, refl, sym, ap, ◌∙◌}
use mathlib.Core.Bool.{Bool, true, false, not, cond, ◌&&◌}
use mathlib.Core.List.{List}
use mathlib.Core.Option as found
use Rattle.std.specs.Prelude.{Some, None}
use Prim.Native.Nat.{ℕ, zero, suc, ◌+◌, ◌-◌, ◌<◌}
use native.Mathlib.Omega.{arith}
use lib.ListN.{length, get_or, get_or-eq_default}
use lib.Dec.{eqb, ltb}
use borrow.Author.Tests.{ltb-true, ltb-false, lt-ltb, le-ltb}
use Rattle.logic.specs.Word.{kind_of, payload_of}
use Rattle.engine.specs.Sorts.{Sort, Context, sort_at}
use Rattle.engine.specs.Reached.{Right}
use Rattle.engine.specs.Encode.{operation_at, count_at, bare, argument_at}
use Rattle.engine.specs.WellFormed.{again, head_stands, malformed, read_from, known, sort_of_word, count_fits, argument_of}
use Rattle.engine.specs.WellFormed.{admits, first_failing, admitted, wrong_argument}
use Rattle.engine.proofs.Steps.{read_head, read_wrong}
use Rattle.engine.specs.declared.Argument.{Argument}
use Rattle.call_list.specs.Operations.{is_declare}
use Rattle.call_list.proofs.OperationsLaws.{declares_of}
use Rattle.term_table.specs.Sorted.{ReadTo}
use Rattle.name_table.specs.Named.{NamesTo, TopsTo}
use Rattle.name_table.proofs.NamedLaws.{known_is}
use Rattle.record_faults.specs.Faults.{word_sort, stands_by, wrong_by, again_by, head_by, on_wrong, fault_by}

-- What the tests of one argument say, taken from the words one by one.
pub stands_is : (sort : ℕ → Sort) (w : List ℕ) (terms at i : ℕ) {arg : Argument} {first before word sb s : ℕ} {r : Bool}
    → arg ≡ argument_of (operation_at w at) i → first ≡ argument_at bare w at 0 → before ≡ get_or w (at + i) 0
    → word ≡ argument_at bare w at i → sb ≡ word_sort sort terms before → s ≡ word_sort sort terms word
    → r ≡ admits arg first before word sb s → r ≡ stands_by sort w terms at i
stands_is sort w terms at i p0 p1 p2 p3 p4 p5 e = rw (← p0, ← p1, ← p2, ← p3, ← p4, ← p5) e

-- A word of the kind of a head is inside the list.
pub head-inside : (w : List ℕ) (at : ℕ) → kind_of (get_or w at 0) ≡ 2 → at < length w
head-inside w at h = go (ltb at (length w)) refl
  where
    go : (b : Bool) → ltb at (length w) ≡ b → at < length w
    go true e = ltb-true at (length w) e
    go false e =
        let none : ◌≡◌ {A = ℕ} (get_or w at 0) 0 = get_or-eq_default w 0 (ltb-false at (length w) e) in
        let z : ◌≡◌ {A = ℕ} 0 2 = sym (ap kind_of none) ∙ h in
        absurd (omega arith)

-- A function that says the sorts of the terms so far.
abbrev pub Says : (ℕ → Sort) → Context → Type 0
Says sort x = (k : ℕ) → k < length x.sorts → sort k ≡ sort_at x.sorts k

module _ {w : List ℕ} {at : ℕ} {x : Context} {table : List ℕ} {terms : ℕ} (r : ReadTo w at x table terms)
    (sort : ℕ → Sort)
    (says : Says sort x) where
  pub word_sort-is : (word : ℕ) → word_sort sort terms word ≡ sort_of_word x.sorts word
  word_sort-is word = go (eqb (kind_of word) 4) (ltb (payload_of word) terms) refl
    where
      go : (a b : Bool) → ltb (payload_of word) terms ≡ b
          → cond (a && b) (sort (payload_of word)) 65 ≡ cond a (sort_at x.sorts (payload_of word)) 65
      go true true e =
          says (payload_of word) (let z = ltb-true (payload_of word) terms e in let c = r.counts in omega arith)
      go true false e =
          sym (get_or-eq_default x.sorts 65
          (let z = ltb-false (payload_of word) terms e in let c = r.counts in omega arith))
      go false b e = refl

  pub stands_admitted : (i : ℕ) → stands_by sort w terms at i ≡ admitted x.sorts w at i
  stands_admitted i = rw (word_sort-is (get_or w (at + i) 0), word_sort-is (argument_at bare w at i))

-- Two tests that agree fail first at one number.
first-same : (f g : ℕ → Bool) → ((i : ℕ) → f i ≡ g i) → (i n : ℕ) → first_failing f i n ≡ first_failing g i n
unfolding first_failing
first-same f g h i zero = refl
first-same f g h i (suc n) = rw (h i, first-same f g h (suc i) n)

pub wrong_is : {w : List ℕ} {at : ℕ} {x : Context} {table : List ℕ} {terms : ℕ} → ReadTo w at x table terms →
    (sort : ℕ → Sort)
    → Says sort x → wrong_by sort w terms at ≡ wrong_argument x.sorts w at
wrong_is {w} {at} {x} {table} {terms} r sort says =
    first-same (stands_by sort w terms at) (admitted x.sorts w at) (stands_admitted r sort says) 0 (count_at w at)

as_and : (a b : Bool) → cond a b false ≡ (a && b)
as_and true b = refl
as_and false b = refl

as_conds : (a b d e : Bool) → (true && a && b && d && e) ≡ cond a (cond b (cond d e false) false) false
as_conds true true true e = refl
as_conds true true false e = refl
as_conds true false d e = refl
as_conds false b d e = refl

whole_same : (n m at : ℕ) → at < m → ltb (at + n) m ≡ ltb n (m - at)
whole_same n m at h = go (ltb n (m - at)) refl
  where
    go : (b : Bool) → ltb n (m - at) ≡ b → ltb (at + n) m ≡ b
    go true e = lt-ltb (at + n) m (let z = ltb-true n (m - at) e in omega arith)
    go false e = le-ltb (at + n) m (let z = ltb-false n (m - at) e in omega arith)

module _ {w : List ℕ} {at : ℕ} {x : Context} {table : List ℕ} {terms : ℕ} (r : ReadTo w at x table terms)
    (names tops : List ℕ) (named : NamesTo names x.names) (topped : TopsTo tops x.names) where
  pub again-is : again_by names tops w at ≡ again x w at
  again-is =
      rw (
        declares_of (operation_at w at) (count_at w at) (λ i. payload_of (argument_at bare w at i)),
        known_is r names tops named topped (argument_at bare w at 0) (argument_at bare w at 1)
            (argument_at bare w at 2),
      )
      (as_and (is_declare (operation_at w at))
      (known x.names (argument_at bare w at 0) (argument_at bare w at 1) (argument_at bare w at 2)))

  pub head-is : at < length w → x.checked ≡ false → head_stands x w at ≡ head_by names tops w at
  head-is inside open-list =
      rw (
        open-list,
        ← again-is,
        whole_same (count_at w at) (length w) at inside,
      )
      (as_conds (eqb (kind_of (get_or w at 0)) 2) (ltb (count_at w at) (length w - at))
      (count_fits (operation_at w at) (count_at w at) (argument_at bare w at 0)) (not (again_by names tops w at)))

  -- The fault of a record is that of reading it.
  pub fault-none : (sort : ℕ → Sort) → Says sort x →
      at < length w → x.checked ≡ false → fault_by sort names tops w terms at ≡ None → Right w at x
  fault-none sort says inside open-list e = go (head_by names tops w at) refl (wrong_by sort w terms at) refl e
    where
      go : (h : Bool) → head_by names tops w at ≡ h → (o : found.Option ℕ) → wrong_by sort w terms at ≡ o
          → cond h (on_wrong o (λ i. at + 1 + i)) (Some at) ≡ None → Right w at x
      go true h found.none q t = record {
        inside = inside;
        head = head-is inside open-list ∙ h;
        arguments = sym (wrong_is r sort says) ∙ q;
      }
      go true h (found.some i) q t = absurd (let z : ◌≡◌ {A = ℕ} 0 1 = cc in omega arith)
      go false h o q t = absurd (let z : ◌≡◌ {A = ℕ} 0 1 = cc in omega arith)

  pub fault-some : (sort : ℕ → Sort) → Says sort x →
      at < length w → x.checked ≡ false → (p n : ℕ) → fault_by sort names tops w terms at ≡ Some p
      → read_from (suc n) w at x ≡ malformed p
  fault-some sort says inside open-list p n e = go (head_by names tops w at) refl (wrong_by sort w terms at) refl e
    where
      go : (h : Bool) → head_by names tops w at ≡ h → (o : found.Option ℕ) → wrong_by sort w terms at ≡ o
          → cond h (on_wrong o (λ i. at + 1 + i)) (Some at) ≡ Some p → read_from (suc n) w at x ≡ malformed p
      go true h found.none q t = absurd (let z : ◌≡◌ {A = ℕ} 0 1 = cc in omega arith)
      go true h (found.some i) q t =
          let place : at + 1 + i ≡ p = cc in
          read_wrong n w at x i inside (head-is inside open-list ∙ h) (sym (wrong_is r sort says) ∙ q)
          ∙ ap malformed place
      go false h o q t =
          let place : at ≡ p = cc in
          read_head n w at x inside (head-is inside open-list ∙ h) ∙ ap malformed place
