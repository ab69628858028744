-- Words that stand in a list from a place on, one after another; and scans of them.
use mathlib.Core.Path.{◌≡◌, refl, ap, ap₂, ◌∙◌}
use mathlib.Core.List.{List, [], ◌∷◌, ◌++◌, map, flat_map}
use Prim.Native.Nat.{ℕ, zero, suc, ◌+◌, ◌≤◌, ◌<◌}
use native.Mathlib.Omega.{arith}
use native.Mathlib.Nat.{add-zero, zero-add}
use lib.ListN.{length, get_or, length-append}
use Rattle.std.specs.Prelude.{Result, Ok}
use Rattle.logic.specs.declared.Fault.{Fault}
use Rattle.logic.specs.Table.{tab}
use Rattle.logic.proofs.TableLaws.{tab_ext}
use Rattle.cell.specs.Each.{Each}
use Rattle.cell.proofs.EachLaws.{each_append}
use Rattle.fields.specs.Field.{scan_many}

-- What is read at each place from a place on.
module _ {A : Type 0} (item : ℕ → A) where
  abbrev pub Reads : ℕ → List A → Type 0
  Reads at [] = Unit {0}
  Reads at (x ∷ xs) = (item at ≡ x) × Reads (at + 1) xs

  pub reads_first : (xs ys : List A) (at : ℕ) → Reads at (xs ++ ys) → Reads at xs
  reads_first [] ys at h = tt
  reads_first (x ∷ xs) ys at h = (h.0, reads_first xs ys (at + 1) h.1)

  pub reads_rest : (xs ys : List A) (at : ℕ) → Reads at (xs ++ ys) → Reads (at + length xs) ys
  reads_rest [] ys at h = rw add-zero h
  reads_rest (x ∷ xs) ys at h =
      let place : at + suc (length xs) ≡ at + 1 + length xs = omega arith in rw place (reads_rest xs ys (at + 1) h.1)

  -- A list is the table of what is read.
  pub reads-tab : (xs : List A) (at : ℕ) → Reads at xs → tab (length xs) (λ i. item (at + i)) ≡ xs
  unfolding tab
  reads-tab [] at h = refl
  reads-tab (x ∷ xs) at h =
      ap₂ (λ (y : A) (ys : List A). y ∷ ys) (rw add-zero h.0)
      (tab_ext (length xs) _ _ (λ i low. ap item (omega arith)) ∙ reads-tab xs (at + 1) h.1)

  pub reads-each :
      (default : A) (xs : List A) (at : ℕ) → ((i : ℕ) → i < length xs → item (at + i) ≡ get_or xs i default) → Reads at xs
  reads-each default [] at h = tt
  reads-each default (x ∷ xs) at h = (
    rw add-zero at (h zero (omega arith)),
    reads-each default xs (at + 1)
        (λ i low. let place : at + suc i ≡ at + 1 + i = omega arith in rw place at (h (suc i) (omega arith))),
  )

abbrev pub word_at : List ℕ → ℕ → ℕ
word_at w at = get_or w at 0

-- What the words of items are read as.
pub reads-map :
    {A : Type 0} (w : List ℕ) (word : A → ℕ) (item : ℕ → A) (P : A → Type 0) →
    ((at : ℕ) (x : A) → word_at w at ≡ word x → P x → item at ≡ x) →
    (xs : List A) (at : ℕ) → Each P xs → Reads (word_at w) at (map word xs) → Reads item at xs
reads-map w word item P one [] at all h = tt
reads-map w word item P one (x ∷ xs) at all h =
    (one at x h.0 all.0, reads-map w word item P one xs (at + 1) all.1 h.1)

-- Words that stand from a place on, before `end`.
pub record Stands (w : List ℕ) (end at : ℕ) (words : List ℕ) : Type 0 where
  pub reads : Reads (word_at w) at words
  pub fits : at + length words ≤ end

pub stands_whole : (w : List ℕ) → Stands w (length w) 0 w
stands_whole w = record { reads = reads-each (word_at w) 0 w 0 (λ i low. rw zero-add); fits = omega arith }

module _ {w : List ℕ} {end at : ℕ} where
  pub stands_first : (xs ys : List ℕ) → Stands w end at (xs ++ ys) → Stands w end at xs
  stands_first xs ys s =
      let fits = s.fits in
      record { reads = reads_first (word_at w) xs ys at s.reads; fits = omega (arith, length-append xs ys) }

  pub stands_rest : (xs ys : List ℕ) → Stands w end at (xs ++ ys) → Stands w end (at + length xs) ys
  stands_rest xs ys s =
      let fits = s.fits in
      record { reads = reads_rest (word_at w) xs ys at s.reads; fits = omega (arith, length-append xs ys) }

  pub stands_tail : {x : ℕ} {xs : List ℕ} → Stands w end at (x ∷ xs) → Stands w end (at + 1) xs
  stands_tail s = let fits = s.fits in record { reads = s.reads.1; fits = omega arith }

  pub stands_inside : {x : ℕ} {xs : List ℕ} → Stands w end at (x ∷ xs) → at < end
  stands_inside s = let fits = s.fits in omega arith

  pub stands_before : {xs : List ℕ} (to : ℕ) → at + length xs ≤ to → Stands w end at xs → Stands w to at xs
  stands_before to low s = record { reads = s.reads; fits = low }

-- ---- Scans.
module _ (w : List ℕ) (end : ℕ) (step : ℕ → Result ℕ Fault) where
  -- Word by word.
  pub scan-words :
      (P : ℕ → Type 0) → ((at : ℕ) → at < end → P (word_at w at) → step at ≡ Ok (at + 1)) →
      (xs : List ℕ) (at : ℕ) → Stands w end at xs → Each P xs → scan_many step (length xs) at ≡ Ok (at + length xs)
  unfolding scan_many
  scan-words P one [] at s all = rw add-zero
  scan-words P one (x ∷ xs) at s all =
      let place : at + suc (length xs) ≡ at + 1 + length xs = omega arith in
      rw (one at (stands_inside s) (rw s.reads.0 all.0), place)
      (scan-words P one xs (at + 1) (stands_tail s) all.1)

  -- Item by item, each of some words.
  pub scan-items :
      {A : Type 0} (words : A → List ℕ) (P : A → Type 0) →
      ((at : ℕ) (x : A) → Stands w end at (words x) → P x → step at ≡ Ok (at + length (words x))) →
      (xs : List A) (at : ℕ) → Stands w end at (flat_map words xs) → Each P xs →
      scan_many step (length xs) at ≡ Ok (at + length (flat_map words xs))
  unfolding scan_many flat_map
  scan-items words P one [] at s all = rw add-zero
  scan-items words P one (x ∷ xs) at s all =
      let place : at + length (words x ++ flat_map words xs) ≡ at + length (words x) + length (flat_map words xs) =
      omega (arith, length-append (words x) (flat_map words xs)) in
      rw (one at x (stands_first (words x) (flat_map words xs) s) all.0, place)
      (scan-items words P one xs (at + length (words x)) (stands_rest (words x) (flat_map words xs) s) all.1)

pub each-words :
    {A : Type 0} (word : A → ℕ) (P : A → Type 0) (Q : ℕ → Type 0) → ((x : A) → P x → Q (word x)) →
    (xs : List A) → Each P xs → Each Q (map word xs)
each-words word P Q one [] all = tt
each-words word P Q one (x ∷ xs) all = (one x all.0, each-words word P Q one xs all.1)

pub each-items :
    {A : Type 0} (words : A → List ℕ) (Q : ℕ → Type 0) → ((x : A) → Each Q (words x)) → (xs : List A) →
    Each Q (flat_map words xs)
unfolding flat_map
each-items words Q one [] = tt
each-items words Q one (x ∷ xs) = each_append Q (words x) (flat_map words xs) (one x) (each-items words Q one xs)
