-- Laws of the words of an input.
use mathlib.Core.Path.{◌≡◌, refl, ap, ◌∙◌}
use mathlib.Core.Bool.{Bool, true, false, cond}
use mathlib.Core.List.{List}
use Prim.Native.Nat.{ℕ, zero, suc, ◌+◌, ◌/◌, ◌%◌, ◌<◌, ◌≤◌}
use native.Mathlib.Omega.{arith}
use native.Mathlib.Numerals.{add-one}
use lib.ListN.{length, take, set, length-append}
use lib.Seq.{sets, sets-eq, length-sets, take_at}
use lib.Dec.{ltb, eqb}
use borrow.Author.Tests.{lt-ltb, le-ltb, ltb-false, eq-eqb, ne_eqb}
use Rattle.logic.specs.declared.Fault.{Fault}
use Rattle.stores.proofs.Laws.{sets_append}
use Rattle.std.specs.Prelude.{Result, Ok, Err}
use Rattle.little_endian.specs.Words.{word_at, first_words, words_of, input_of, words_after}

pub length-first : (bytes : List ℕ) (n : ℕ) → length (first_words bytes n) ≡ n
unfolding first_words
length-first bytes zero = refl
length-first bytes (suc n) = let h = length-first bytes n in simp length-append (omega arith)

-- ---- a loop that stores the words one by one

pub words-none : (bytes words : List ℕ) → words ≡ sets words 0 (first_words bytes 0)
unfolding first_words
words-none bytes words = refl

pub words_turn : (bytes words : List ℕ) (i : ℕ) → set (sets words 0 (first_words bytes i)) i (word_at bytes i)
    ≡ sets words 0 (first_words bytes (i + 1))
unfolding first_words
words_turn bytes words i =
    let place : i ≡ 0 + length (first_words bytes i) = let h = length-first bytes i in omega arith in
    rw (add-one i, sets_append words 0 (first_words bytes i) _, ← place)

-- ---- the input's own faults

module _ (bytes : List ℕ) where
  pub too_long : 65536 < length bytes → Err (record { number = 4; place = 16384 }) ≡ input_of bytes
  unfolding input_of
  too_long long = rw (lt-ltb 65536 (length bytes) long)

  pub broken_word : length bytes ≤ 65536 → (length bytes % 4 ≡ 0 → ⊥)
      → Err (record { number = 1; place = length bytes / 4 }) ≡ input_of bytes
  unfolding input_of
  broken_word short broken = rw (le-ltb 65536 (length bytes) short, ne_eqb _ _ broken)

  pub whole_words : length bytes ≤ 65536 → length bytes % 4 ≡ 0 → Ok (length bytes / 4) ≡ input_of bytes
  unfolding input_of
  whole_words short whole = rw (le-ltb 65536 (length bytes) short, eq-eqb _ _ whole)

  -- An input that has words has at most 16,384, and this many.
  pub input-fits : {n : ℕ} → Ok n ≡ input_of bytes → (length (words_of bytes) ≡ n) × (n ≤ 16384)
  unfolding input_of
  input-fits {n} is = go (ltb 65536 (length bytes)) (eqb (length bytes % 4) 0) refl is
    where
      go : (long whole : Bool) → ltb 65536 (length bytes) ≡ long
          → ◌≡◌ {A = Result ℕ Fault} (Ok n)
          (cond long (Err (record { number = 4; place = 16384 }))
          (cond whole (Ok (length bytes / 4)) (Err (record { number = 1; place = length bytes / 4 }))))
          → (length (words_of bytes) ≡ n) × (n ≤ 16384)
      go true whole e is = let z : ◌≡◌ {A = ℕ} 0 1 = cc in absurd (omega arith)
      go false false e is = let z : ◌≡◌ {A = ℕ} 0 1 = cc in absurd (omega arith)
      go false true e is =
          let same : n ≡ length bytes / 4 = cc in
          let short = ltb-false 65536 (length bytes) e in
          let many = length-first bytes (length bytes / 4) in
          (omega arith, omega arith)

  -- ---- what the slice holds after it

  -- With room for 16,384 words, those that were stored are the input's.
  pub words-read : {n : ℕ} (words : List ℕ) {after : List ℕ} → 16384 ≤ length words → Ok n ≡ input_of bytes
      → after ≡ words_after bytes words → (n ≤ length after) × (take n after ≡ words_of bytes)
  words-read {n} words {after} long is stored =
      let fit = input-fits is in
      let all : after ≡ sets words 0 (words_of bytes) = stored ∙ rw (← is) in
      let same : length after ≡ length words = ap length all ∙ length-sets words 0 (words_of bytes) in
      let front = all ∙ sets-eq (words_of bytes) words 0 (omega arith) in
      (omega arith, ap (take n) front ∙ take_at (words_of bytes) _ n fit.0)
