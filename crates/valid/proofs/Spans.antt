-- Words that stand from a place up to another, and the fields that a reader passed without a fault: their words are
-- those of what they are read as.
use mathlib.Core.Path.{◌≡◌, refl, sym, ap, ◌∙◌}
use mathlib.Core.Bool.{Bool, true, false, cond}
use mathlib.Core.List.{List, [], ◌∷◌, ◌++◌, map, flat_map}
use Prim.Native.Nat.{ℕ, zero, suc, ◌+◌, ◌*◌, ◌^◌, ◌≤◌, ◌<◌}
use native.Mathlib.Omega.{arith}
use lib.ListN.{length, length-append, length-map}
use lib.Dec.{ltb, eqb}
use borrow.Author.Tests.{eqb-true}
use Rattle.std.specs.Prelude.{Result, Ok, Err, Some, None}
use Rattle.logic.specs.declared.Fault.{Fault}
use Rattle.logic.specs.Word.{kind_of, net_word, number_word}
use Rattle.logic.proofs.WordLaws.{word_of_parts}
use Rattle.logic.specs.Net.{Net, constant, slot, payload_of_net, driver_of_net}
use Rattle.logic.proofs.NetLaws.{payload_of_net_lem}
use Rattle.logic.specs.declared.Driver.TheVariants.{NoNet}
use Rattle.logic.specs.Table.{tab}
use Rattle.logic.proofs.TableLaws.{tab_ext, length-tab}
use Rattle.logic.specs.declared.Trit.{Trit}
use Rattle.fields.specs.Field.{fault, on_number, constant_driver, is_constant, number_at, net_at, bit_at}
use Rattle.fields.specs.Field.{scan_bit, constant_at, scan_many}
use Rattle.fields.specs.Pattern.{alternate_at, pattern_at, patterns_at}
use Rattle.fields.proofs.AcceptedLaws.{number_read, net-read, many_read, both_read}
use Rattle.cell_reader.specs.Parse.{number_in, net_in, control_in, trit_of, trit_in, nets_in, trits_in, patterns_in}
use Rattle.accepted.proofs.Fields.{each-tab}
use Rattle.valid.specs.Words.{net_word_of, control_word_of, trit_word_of, pattern_words_of}
use Rattle.valid.proofs.Stands.{Reads, word_at}
use Rattle.valid.proofs.Patterns.{alternates_words}

pub record Spans (w : List ℕ) (at : ℕ) (words : List ℕ) (next : ℕ) : Type 0 where
  pub reads : Reads (word_at w) at words
  pub ends : next ≡ at + length words

reads_append :
    {A : Type 0} (item : ℕ → A) (xs ys : List A) (at : ℕ) → Reads item at xs → Reads item (at + length xs) ys →
    Reads item at (xs ++ ys)
reads_append item [] ys at h k = let place : at + 0 ≡ at = omega arith in rw place at k
reads_append item (x ∷ xs) ys at h k =
    let place : at + suc (length xs) ≡ at + 1 + length xs = omega arith in
    (h.0, reads_append item xs ys (at + 1) h.1 (rw place at k))

module _ {w : List ℕ} where
  pub spans_none : {at next : ℕ} → next ≡ at → Spans w at [] next
  spans_none same = record { reads = tt; ends = omega arith }

  pub spans_one : {at next word : ℕ} → word_at w at ≡ word → next ≡ at + 1 → Spans w at (word ∷ []) next
  spans_one word after = record { reads = (word, tt); ends = omega arith }

  pub spans_then :
      {at mid next : ℕ} (xs ys : List ℕ) → Spans w at xs mid → Spans w mid ys next → Spans w at (xs ++ ys) next
  spans_then {at} {mid} {next} xs ys s t =
      let middle : mid ≡ at + length xs = s.ends in
      let last : next ≡ mid + length ys = t.ends in
      record {
        reads = reads_append (word_at w) xs ys at s.reads (rw middle at t.reads);
        ends = omega (arith, length-append xs ys);
      }

module _ {A : Type 0} (w : List ℕ) (word : A → ℕ) (item : ℕ → A) where
  -- A place whose word is that of what is read there.
  abbrev pub SameWord : ℕ → Type 0
  SameWord at = word_at w at ≡ word (item at)

  reads_tabbed :
      (n at : ℕ) → ((i : ℕ) → i < n → SameWord (at + i)) → Reads (word_at w) at (map word (tab n (λ i. item (at + i))))
  unfolding tab
  reads_tabbed zero at h = tt
  reads_tabbed (suc n) at h =
      let start : at + 0 ≡ at = omega arith in
      let next : (i : ℕ) → at + suc i ≡ at + 1 + i = λ i. omega arith in
      let same : tab n (λ i. item (at + suc i)) ≡ tab n (λ i. item (at + 1 + i)) =
      tab_ext n (λ i. item (at + suc i)) (λ i. item (at + 1 + i)) (λ i low. ap item (next i)) in (
        rw start (rw start at (h 0 (omega arith))),
        rw same (reads_tabbed n (at + 1) (λ i low. rw (next i) at (h (suc i) (omega arith)))),
      )

  pub spans_tab :
      (n at next : ℕ) → next ≡ at + n → ((i : ℕ) → i < n → SameWord (at + i)) →
      Spans w at (map word (tab n (λ i. item (at + i)))) next
  spans_tab n at next ends h =
      let many : length (map word (tab n (λ i. item (at + i)))) ≡ n =
      length-map (tab n (λ i. item (at + i))) word ∙ length-tab n (λ i. item (at + i)) in
      record { reads = reads_tabbed n at h; ends = omega arith }

  -- A run of fields.
  pub spans_many :
      (step : ℕ → Result ℕ Fault) → ((at next : ℕ) → step at ≡ Ok next → (next ≡ at + 1) × SameWord at) →
      (n at next : ℕ) → scan_many step n at ≡ Ok next → Spans w at (map word (tab n (λ i. item (at + i)))) next
  spans_many step one n at next read =
      let all = many_read step SameWord one n at next read in spans_tab n at next all.0 all.1

-- ---- Fields.
pub flag_back : (k : ℕ) → k ≤ 1 → cond (eqb k 1) 1 0 ≡ k
flag_back zero low = refl
flag_back (suc zero) low = refl
flag_back (suc (suc k)) low = absurd (omega arith)

module _ (w : List ℕ) (at : ℕ) where
  pub number_word_lem : kind_of (word_at w at) ≡ 3 → word_at w at ≡ number_word (number_in w at)
  number_word_lem kind = sym (rw kind at (word_of_parts (word_at w at)))

  pub net_word_lem : kind_of (word_at w at) ≤ 0 → word_at w at ≡ net_word_of (net_in w at)
  unfolding net_word_of
  net_word_lem kind =
      let plain : kind_of (word_at w at) ≡ 0 = omega arith in
      rw (payload_of_net_lem (number_in w at)) (sym (rw plain at (word_of_parts (word_at w at))))

  pub control_word_lem : kind_of (word_at w at) ≤ 1 → word_at w at ≡ control_word_of (control_in w at)
  unfolding control_word_of
  control_word_lem kind =
      rw (payload_of_net_lem (number_in w at), flag_back (kind_of (word_at w at)) kind) (sym (word_of_parts (word_at w at)))

  constant-named : is_constant (number_in w at) ≡ true → constant (trit_in w at) ≡ net_in w at
  constant-named is = go (ltb (number_in w at) (2 ^ 29)) (net_in w at) is
    where
      go : (low : Bool) (n : Net) → constant_driver (cond low (driver_of_net n) NoNet) ≡ true → constant (trit_of n) ≡ n
      go low (constant t) e = refl
      go true (slot i) e = let z : ◌≡◌ {A = ℕ} 0 1 = cc in absurd (omega arith)
      go false (slot i) e = let z : ◌≡◌ {A = ℕ} 0 1 = cc in absurd (omega arith)

  pub constant_word :
      (end next : ℕ) → constant_at w end at ≡ Ok next →
      (next ≡ at + 1) × (word_at w at ≡ trit_word_of (trit_in w at))
  unfolding constant_at bit_at trit_word_of
  constant_word end next =
      go (ltb at end) (eqb (kind_of (word_at w at)) 0) (is_constant (number_in w at)) refl refl
    where
      go :
          (inside right is : Bool) → eqb (kind_of (word_at w at)) 0 ≡ right → is_constant (number_in w at) ≡ is →
          scan_bit
          (cond inside (cond right (cond is (Ok (Some (at + 1))) (Ok None)) (Err (fault 2 at)))
          (Err (fault 5 at)))
          at
          ≡ Ok next →
          (next ≡ at + 1) × (word_at w at ≡ net_word (payload_of_net (constant (trit_in w at))))
      go true true true k c e =
          let plain : kind_of (word_at w at) ≡ 0 = eqb-true _ _ k in (
            cc,
            rw (constant-named c, payload_of_net_lem (number_in w at)) (sym (rw plain at (word_of_parts (word_at w at)))),
          )
      go true true false k c e = let z : ◌≡◌ {A = ℕ} 0 1 = cc in absurd (omega arith)
      go true false c k _ e = let z : ◌≡◌ {A = ℕ} 0 1 = cc in absurd (omega arith)
      go false r c k _ e = let z : ◌≡◌ {A = ℕ} 0 1 = cc in absurd (omega arith)

-- ---- Vectors.
module _ (w : List ℕ) (total end : ℕ) where
  pub nets_span :
      (n at next : ℕ) → scan_many (net_at w total false end) n at ≡ Ok next →
      Spans w at (map net_word_of (nets_in w n at)) next
  nets_span =
      spans_many w net_word_of (net_in w) (net_at w total false end)
      (λ at next e. let is = net-read w total false end at e in (is.0, net_word_lem w at is.1.kind))

  pub controls_span :
      (n at next : ℕ) → scan_many (net_at w total true end) n at ≡ Ok next →
      Spans w at (map control_word_of (tab n (λ i. control_in w (at + i)))) next
  controls_span =
      spans_many w control_word_of (control_in w) (net_at w total true end)
      (λ at next e. let is = net-read w total true end at e in (is.0, control_word_lem w at is.1.kind))

  pub constants_span :
      (n at next : ℕ) → scan_many (constant_at w end) n at ≡ Ok next →
      Spans w at (map trit_word_of (trits_in w n at)) next
  constants_span = spans_many w trit_word_of (trit_in w) (constant_at w end) (λ at next e. constant_word w at end next e)

  -- ---- Patterns.
  alternates_span :
      (n a at next : ℕ) → scan_many (alternate_at w n end) a at ≡ Ok next →
      Spans w at (flat_map (map trit_word_of) (tab a (λ i. trits_in w n (at + i * n)))) next
  unfolding scan_many alternate_at tab flat_map
  alternates_span n zero at next read = spans_none (cc)
  alternates_span n (suc a) at next read =
      let both = both_read (alternate_at w n end at) _ read in
      let here = constants_span n at both.place both.first in
      let rest = alternates_span n a both.place next both.second in
      let size : length (map trit_word_of (trits_in w n at)) ≡ n =
      length-map (trits_in w n at) trit_word_of ∙ length-tab n _ in
      let ends = here.ends in
      let start : at + 0 * n ≡ at = omega arith in
      let same : tab a (λ i. trits_in w n (at + suc i * n)) ≡ tab a (λ i. trits_in w n (both.place + i * n)) =
      tab_ext a _ _ (λ i low. ap (λ (k : ℕ). trits_in w n k) (omega arith)) in
      rw (start, same) (spans_then (map trit_word_of (trits_in w n at)) _ here rest)

  pub patterns_span :
      (n k at next : ℕ) → patterns_at w n end k at ≡ Ok next →
      Spans w at (flat_map pattern_words_of (patterns_in w n k at)) next
  unfolding patterns_at pattern_at scan_many patterns_in flat_map pattern_words_of
  patterns_span n zero at next read = spans_none (cc)
  patterns_span n (suc k) at next read =
      let both = both_read (pattern_at w n end at) _ read in
      go (number_at w 64 end at) refl both.first (patterns_span n k both.place next both.second)
    where
      alternates : List (List Trit)
      alternates = tab (number_in w at) (λ i. trits_in w n (at + 1 + i * n))

      go :
          (v : Result (ℕ × ℕ) Fault) → number_at w 64 end at ≡ v → {place : ℕ} →
          on_number v Err (scan_many (alternate_at w n end)) ≡ Ok place →
          Spans w place (flat_map pattern_words_of (patterns_in w n k place)) next →
          Spans w at (flat_map pattern_words_of (alternates ∷ patterns_in w n k (at + 1 + number_in w at * n))) next
      go (Err f) v e rest = let z : ◌≡◌ {A = ℕ} 0 1 = cc in absurd (omega arith)
      go (Ok (a, start)) v {place} e rest =
          let is = number_read w 64 end at v in
          let value : a ≡ number_in w at = is.value in
          let after : start ≡ at + 1 = is.after in
          let middle : Spans w (at + 1) (flat_map (map trit_word_of) alternates) place =
          rw after at (rw value at (alternates_span n a start place e)) in
          let size : length alternates ≡ number_in w at = length-tab (number_in w at) _ in
          let words = alternates_words n alternates (each-tab _ (number_in w at) _ (λ i low. length-tab n _)) in
          let ends : place ≡ at + 1 + number_in w at * n = middle.ends ∙ rw (words, size) in
          let number : word_at w at ≡ number_word (length alternates) = rw size (number_word_lem w at is.kind) in
          spans_then (pattern_words_of alternates) _
          (spans_then (number_word (length alternates) ∷ []) _ (spans_one number refl) (rw ends at middle))
          (rw ends at rest)
