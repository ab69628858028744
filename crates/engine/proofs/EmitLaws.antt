-- Laws of the definitions of Emit.
use mathlib.Core.Path.{◌≡◌, refl, sym, ap, ◌∙◌}
use mathlib.Core.List.{List, [], ◌∷◌, ◌++◌, map}
use Prim.Native.Nat.{ℕ, zero, suc, ◌+◌, ◌-◌, ◌/◌, ◌%◌, ◌^◌, ◌≤◌, ◌<◌}
use native.Mathlib.Nat.{le_of_suc-le-suc}
use native.Mathlib.Numerals.{add-one, sub-one}
use native.Mathlib.Omega.{arith}
use lib.ListN.{length, get_or, take, set, length-append, length-map, length-set}
use lib.Seq.{sets, length-sets, set_out}
use lib.Dec.{leb}
use mathlib.Core.Bool.{Bool, true, false}
use borrow.Author.Tests.{leb-true, leb-false}
use Rattle.logic.specs.Word.{head_word, number_word, term_word}
use Rattle.bitvec.specs.Bits.{nat2bv}
use Rattle.bitvec.proofs.Laws.{length-nat2bv, bv2nat-nat2bv}
use Rattle.bitvec.specs.Words.{at_width}
use Rattle.bitvec.proofs.WordLaws.{reduced}
use Rattle.engine.specs.Call as c
use Rattle.engine.specs.Encode.{digits, record_of}
use Rattle.engine.proofs.Written.{length_literal}
use Rattle.engine.specs.Emit.{overwrite, last, counted, Wrote}

pub length-overwrite : (words : List ℕ) (at : ℕ) (new : List ℕ) → length (overwrite words at new) ≡ length words
unfolding overwrite
length-overwrite words at new = length-sets words at new

sets_append : (words : List ℕ) (at : ℕ) (xs ys : List ℕ)
    → sets words at (xs ++ ys) ≡ sets (sets words at xs) (at + length xs) ys
sets_append words at [] ys = ap (λ (k : ℕ). sets words k ys) (let e : at ≡ at + 0 = omega arith in e)
sets_append words at (x ∷ xs) ys =
    sets_append (set words at x) (suc at) xs ys
    ∙ ap (λ (k : ℕ). sets (sets (set words at x) (suc at) xs) k ys)
    (let e : suc at + length xs ≡ at + suc (length xs) = omega arith in e)

sets_out : (words : List ℕ) (at : ℕ) (xs : List ℕ) → length words ≤ at → sets words at xs ≡ words
sets_out words at [] h = refl
sets_out words at (x ∷ xs) h =
    sets_out (set words at x) (suc at) xs (let e = length-set words at x in omega arith) ∙ set_out words at x h

pub overwrite_out : (words : List ℕ) (at : ℕ) (xs : List ℕ) → length words ≤ at → overwrite words at xs ≡ words
unfolding overwrite
overwrite_out = sets_out

pub overwrite_append : (words : List ℕ) (at : ℕ) (xs ys : List ℕ)
    → overwrite words at (xs ++ ys) ≡ overwrite (overwrite words at xs) (at + length xs) ys
unfolding overwrite
overwrite_append = sets_append

-- A count that stops writes where the count itself would.
pub overwrite-counted : (words : List ℕ) (at : ℕ) (xs : List ℕ) → length words < 2 ^ 64
    → overwrite words (counted at) xs ≡ overwrite words at xs
overwrite-counted words at xs h = go (leb at last) refl
  where
    go : (b : Bool) → leb at last ≡ b → overwrite words (counted at) xs ≡ overwrite words at xs
    go true e = ap (λ (k : ℕ). overwrite words k xs) (let z = leb-true at last e in omega arith)
    go false e =
        let z = leb-false at last e in
        overwrite_out words (counted at) xs (omega arith) ∙ sym (overwrite_out words at xs (omega arith))

-- Nothing written, and two writings one after the other.
pub wrote_none : (words : List ℕ) (at : ℕ) → at ≤ last → Wrote words at [] words at
unfolding overwrite
wrote_none words at h = record { words = refl; count = omega arith }

pub wrote_then : {before : List ℕ} {at : ℕ} {xs ys between after : List ℕ} {mid next : ℕ}
    → Wrote before at xs between mid → Wrote between mid ys after next → length before < 2 ^ 64
    → Wrote before at (xs ++ ys) after next
wrote_then {before} {at} {xs} {ys} {between} {after} {mid} {next} p q h =
    record { words = path; count = total }
  where
    long : length between ≡ length before
    long = ap length p.words ∙ length-overwrite before at xs

    path : after ≡ overwrite before at (xs ++ ys)
    path =
        q.words ∙ ap (λ (k : ℕ). overwrite between k ys) p.count
        ∙ overwrite-counted between (at + length xs) ys (let e = long in omega arith)
        ∙ ap (λ (l : List ℕ). overwrite l (at + length xs) ys) p.words ∙ sym (overwrite_append before at xs ys)

    total : next ≡ counted (at + length (xs ++ ys))
    total = q.count ∙ (let e = p.count in let f = length-append xs ys in omega arith)

-- One more of a list's words.
map_snoc : (f : ℕ → ℕ) (ks : List ℕ) (i : ℕ) → i < length ks
    → map f (take i ks) ++ (f (get_or ks i 0) ∷ []) ≡ map f (take (suc i) ks)
map_snoc f [] i h = absurd (omega arith)
map_snoc f (k ∷ ks) zero h = refl
map_snoc f (k ∷ ks) (suc i) h = ap (λ (l : List ℕ). f k ∷ l) (map_snoc f ks i (le_of_suc-le-suc h))

pub more-words : (f : ℕ → ℕ) (ks : List ℕ) (i : ℕ) → i < length ks
    → map f (take i ks) ++ (f (get_or ks i 0) ∷ []) ≡ map f (take (i + 1) ks)
more-words f ks i h = rw (add-one i) (map_snoc f ks i h)

-- The words of a number's digits: none left, and the lowest first.
pub no_digits : (k n : ℕ) → k ≤ 0 → map number_word (digits k n) ≡ []
unfolding digits
no_digits zero n h = refl
no_digits (suc k) n h = absurd (omega arith)

pub first-digit : (k n : ℕ) → 0 < k
    → map number_word (digits k n) ≡ number_word (n % 65536) ∷ map number_word (digits (k - 1) (n / 65536))
unfolding digits
first-digit zero n h = absurd (omega arith)
first-digit (suc k) n h = rw (sub-one (suc k))

-- The head of an and has the low 24 bits of its count, as every head has.
pub and-head : (args : List ℕ) → head_word 3 (length args % 16777216) ≡ head_word 3 (length (map term_word args))
and-head args = rw (length-map args term_word) (low (length args))
  where
    low : (n : ℕ) → head_word 3 (n % 16777216) ≡ head_word 3 n
    low n = omega arith

-- The words of a literal, from its width and its number as a function of `bitvec` gives it.
pub literal_record : (bits value : ℕ) → bits ≤ 64
    → head_word 4 (1 + (bits + 15) / 16) ∷ number_word bits
    ∷ map number_word (digits ((bits + 15) / 16) (at_width bits (nat2bv bits value)))
    ≡ record_of (c.term (c.lit (nat2bv bits value)))
literal_record bits value h =
    rw (
      length_literal (nat2bv bits value),
      length-nat2bv bits value,
      reduced bits value h,
      bv2nat-nat2bv bits value,
    )
    (ap (λ (n : ℕ). head_word 4 n ∷ number_word bits ∷ map number_word (digits ((bits + 15) / 16) (value % 2 ^ bits)))
    (let e : 1 + (bits + 15) / 16 ≡ suc ((bits + 15) / 16) = omega arith in e))
