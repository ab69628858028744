-- What writing bytes into a lent text does, in terms of the writing of words: what falls past the text's end is
-- dropped, and the next place is counted all the same, so that a text of no bytes tells how much room the whole needs.
use mathlib.Core.Path.{◌≡◌, refl, sym, ap, ◌∙◌}
use mathlib.Core.Bool.{Bool, true, false}
use mathlib.Core.List.{List, [], ◌∷◌, ◌++◌}
use Prim.Native.Nat.{ℕ, suc, min, ◌+◌, ◌-◌, ◌<◌, ◌≤◌, ◌^◌}
use native.Mathlib.Nat.{zero-add}
use native.Mathlib.Numerals.{add-one}
use native.Mathlib.Omega.{arith}
use lib.Dec.{leb}
use borrow.Author.Tests.{leb-true, leb-false}
use lib.ListN.{length, take, drop, set, take-append-drop, drop_of_length-le}
use Rattle.std.proofs.Common.{append_assoc}
use lib.Seq.{sets-eq, set_comm, take_at, drop-drop, length-take-le}
use Rattle.engine.specs.Emit.{Wrote, overwrite, counted}
use Rattle.engine.proofs.EmitLaws.{length-overwrite, overwrite_out, overwrite_append}

pub overwrite-none : (text : List ℕ) (at : ℕ) → overwrite text at [] ≡ text
unfolding overwrite
overwrite-none text at = refl

pub overwrite-more : (text : List ℕ) (at b : ℕ) (bytes : List ℕ) → overwrite text at (b ∷ bytes)
    ≡ overwrite (set text at b) (at + 1) bytes
unfolding overwrite
overwrite-more text at b bytes = rw (add-one at)

-- Bytes that fit stand at the text's start, and what comes after them stays.
pub overwrite-fits : (text bytes : List ℕ) → length bytes ≤ length text → overwrite text 0 bytes ≡ bytes
    ++ drop (length bytes) text
unfolding overwrite
overwrite-fits text bytes fits = sets-eq bytes text 0 (omega arith) ∙ rw zero-add

-- Only the bytes for which there is room change the text.
pub overwrite_part : (text : List ℕ) (at n : ℕ) (bytes : List ℕ) → at < length text
    → n ≡ min (length bytes) (length text - at)
    → take at text ++ (take n bytes ++ drop (at + n - at) (drop at text)) ≡ overwrite text at bytes
unfolding overwrite
overwrite_part text at n bytes inside is =
    let long : length (take n bytes) ≡ n = length-take-le n bytes (omega arith) in
    let part : at + n - at ≡ n = omega arith in
    sym (ap (overwrite text at) (sym (take-append-drop n bytes))
    ∙ overwrite_append text at (take n bytes) (drop n bytes)
    ∙ past (leb (length text) (at + n)) refl
    ∙ sets-eq (take n bytes) text at (omega arith)
    ∙ rw (long, part, drop-drop n at text, append_assoc))
  where
    past : (b : Bool) → leb (length text) (at + n) ≡ b
        → overwrite (overwrite text at (take n bytes)) (at + length (take n bytes)) (drop n bytes)
        ≡ overwrite text at (take n bytes)
    past true e =
        let full = leb-true _ _ e in
        let long : length (take n bytes) ≡ n = length-take-le n bytes (omega arith) in
        let same : length (overwrite text at (take n bytes)) ≡ length text = length-overwrite text at (take n bytes) in
        overwrite_out (overwrite text at (take n bytes)) (at + length (take n bytes)) (drop n bytes) (omega arith)
    past false e =
        let more = leb-false _ _ e in
        let none : length bytes ≤ n = omega arith in
        rw (drop_of_length-le bytes none) (overwrite-none (overwrite text at (take n bytes)) (at + length (take n bytes)))

-- A byte before others.
set_before : (bytes text : List ℕ) (at place b : ℕ) → at < place
    → set (overwrite text place bytes) at b ≡ overwrite (set text at b) place bytes
unfolding overwrite
set_before [] text at place b low = refl
set_before (x ∷ bytes) text at place b low =
    set_before bytes (set text place x) at (suc place) b (omega arith)
    ∙ ap (λ (l : List ℕ). overwrite l (suc place) bytes) (set_comm text place at x b (λ e. omega arith))

pub overwrite-first : (text : List ℕ) (at b : ℕ) (bytes : List ℕ)
    → set (overwrite text (at + 1) bytes) at b ≡ overwrite text at (b ∷ bytes)
overwrite-first text at b bytes = set_before bytes text at (at + 1) b (omega arith)
    ∙ sym (overwrite-more text at b bytes)

pub wrote_byte : {text text1 : List ℕ} {at next byte : ℕ} → text1 ≡ set text at byte → next ≡ counted (at + 1)
    → Wrote text at (byte ∷ []) text1 next
unfolding overwrite
wrote_byte stored place = record { words = stored; count = place }

-- Past the text's end nothing is written.
pub wrote-past : (text : List ℕ) (at : ℕ) (bytes : List ℕ) {next : ℕ} → length text ≤ at
    → next ≡ counted (at + length bytes)
    → Wrote text at bytes text next
wrote-past text at bytes past place = record { words = sym (overwrite_out text at bytes past); count = place }

-- Bytes that fit, written from the start, are what the text starts with.
module _ {text text1 : List ℕ} {next : ℕ} {bytes : List ℕ} (wrote : Wrote text 0 bytes text1 next)
    (fits : length bytes ≤ length text) (short : length text < 2 ^ 64) where
  pub start-place : next ≡ length bytes
  start-place = omega (arith, wrote.count)

  pub start-inside : next ≤ length text1
  start-inside = rw (start-place, wrote.words, length-overwrite text 0 bytes) fits

  pub start_bytes : take next text1 ≡ bytes
  start_bytes = rw (wrote.words, start-place, overwrite-fits text bytes fits) (take_at bytes _ _ refl)

-- What writing does.
pub ruleset writing = (wrote_byte, wrote-past, overwrite_part)
