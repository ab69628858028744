-- Document 01, "Words", Match: the words of right patterns are read without a fault, and as those patterns.
use mathlib.Core.Path.{◌≡◌, refl, ap, ap₂, ◌∙◌}
use mathlib.Core.List.{List, [], ◌∷◌, map, flat_map}
use Prim.Native.Nat.{ℕ, suc, ◌+◌, ◌*◌, ◌≤◌}
use native.Mathlib.Omega.{arith}
use lib.ListN.{length, length-append, length-map}
use Rattle.std.specs.Prelude.{Ok}
use Rattle.logic.specs.Table.{tab}
use Rattle.logic.proofs.TableLaws.{tab_ext}
use Rattle.logic.specs.declared.Trit.{Trit}
use Rattle.cell.specs.Each.{Each}
use Rattle.fields.specs.Pattern.{alternate_at, pattern_at, patterns_at}
use Rattle.cell_reader.specs.Parse.{trits_in, patterns_in}
use Rattle.valid.specs.Words.{trit_word_of, pattern_words_of}
use Rattle.valid.proofs.Stands.{Stands, stands_first, stands_rest, stands_tail, stands_inside, scan-items}
use Rattle.valid.proofs.Fields.{number_of_word, number-right, constants-right, constants-read}

-- At most 64 alternates, each of n constants.
abbrev pub Alternates : ℕ → List (List Trit) → Type 0
Alternates n p = (length p ≤ 64) × Each (λ (a : List Trit). length a ≡ n) p

pub alternates_words :
    (n : ℕ) (p : List (List Trit)) → Each (λ (a : List Trit). length a ≡ n) p →
    length (flat_map (map trit_word_of) p) ≡ length p * n
unfolding flat_map
alternates_words n [] all = omega arith
alternates_words n (a ∷ p) all =
    let size = all.0 in
    let rest = alternates_words n p all.1 in
    omega (arith, length-append (map trit_word_of a) (flat_map (map trit_word_of) p), length-map a trit_word_of)

module _ (w : List ℕ) (n end : ℕ) where
  alternate-right :
      (at : ℕ) (a : List Trit) → Stands w end at (map trit_word_of a) → length a ≡ n →
      alternate_at w n end at ≡ Ok (at + length (map trit_word_of a))
  unfolding alternate_at
  alternate-right at a s size =
      let words : length (map trit_word_of a) ≡ n = length-map a trit_word_of ∙ size in
      rw (← words) (constants-right w end a at s)

  pattern_right :
      (at : ℕ) (p : List (List Trit)) → Stands w end at (pattern_words_of p) → Alternates n p →
      pattern_at w n end at ≡ Ok (at + length (pattern_words_of p))
  unfolding pattern_at pattern_words_of
  pattern_right at p s fits =
      let few = fits.0 in
      let words : List ℕ = flat_map (map trit_word_of) p in
      let place : at + suc (length words) ≡ at + 1 + length words = omega arith in
      rw (number-right w 64 end at (length p) (stands_inside s) s.reads.0 (omega arith) few, place)
      (scan-items w end (alternate_at w n end) (map trit_word_of) (λ a. length a ≡ n) alternate-right p (at + 1)
      (stands_tail s) fits.1)

  pub patterns-right :
      (ps : List (List (List Trit))) (at : ℕ) → Stands w end at (flat_map pattern_words_of ps) → Each (Alternates n) ps →
      patterns_at w n end (length ps) at ≡ Ok (at + length (flat_map pattern_words_of ps))
  unfolding patterns_at
  patterns-right = scan-items w end (pattern_at w n end) pattern_words_of (Alternates n) pattern_right

  alternates_read :
      (p : List (List Trit)) (at : ℕ) → Each (λ (a : List Trit). length a ≡ n) p →
      Stands w end at (flat_map (map trit_word_of) p) → tab (length p) (λ i. trits_in w n (at + i * n)) ≡ p
  unfolding tab flat_map
  alternates_read [] at all s = refl
  alternates_read (a ∷ p) at all s =
      let size : length a ≡ n = all.0 in
      let words : length (map trit_word_of a) ≡ length a = length-map a trit_word_of in
      let start : at + 0 * n ≡ at = omega arith in
      ap₂ (λ (x : List Trit) (xs : List (List Trit)). x ∷ xs)
      (rw (start, ← size) (constants-read w end a at (stands_first (map trit_word_of a) (flat_map (map trit_word_of) p) s)))
      (tab_ext (length p) _ _ (λ i low. ap (λ (k : ℕ). trits_in w n k) (omega arith)) ∙
      alternates_read p (at + length (map trit_word_of a)) all.1
      (stands_rest (map trit_word_of a) (flat_map (map trit_word_of) p) s))

  pub patterns-read :
      (ps : List (List (List Trit))) (at : ℕ) → Each (Alternates n) ps → Stands w end at (flat_map pattern_words_of ps) →
      patterns_in w n (length ps) at ≡ ps
  unfolding patterns_in flat_map pattern_words_of
  patterns-read [] at all s = refl
  patterns-read (p ∷ ps) at all s =
      let here = stands_first (pattern_words_of p) (flat_map pattern_words_of ps) s in
      let few : length p ≤ 64 = all.0.0 in
      let words = alternates_words n p all.0.1 in
      let place : at + 1 + length p * n ≡ at + length (pattern_words_of p) = omega arith in
      rw (number_of_word w at (length p) here.reads.0 (omega arith), place)
      (ap₂ (λ (x : List (List Trit)) (xs : List (List (List Trit))). x ∷ xs)
      (alternates_read p (at + 1) all.0.1 (stands_tail here))
      (patterns-read ps (at + length (pattern_words_of p)) all.1
      (stands_rest (pattern_words_of p) (flat_map pattern_words_of ps) s)))
