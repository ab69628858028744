-- Laws of words stored one after another. Assumes nothing.
use mathlib.Core.Path.{◌≡◌, refl, ap, ◌∙◌}
use mathlib.Core.List.{List, [], ◌∷◌, ◌++◌, append-nil}
use Prim.Native.Nat.{ℕ, zero, suc, ◌+◌, ◌-◌, ◌<◌, ◌≤◌}
use native.Mathlib.Nat.{add-zero}
use native.Mathlib.Numerals.{add-one}
use native.Mathlib.Omega.{arith}
use lib.ListN.{length, get_or, set, take, drop, replicate, length-take, length-replicate}
use lib.Seq.{sets, sets-eq, drop-cons, get_or-take}

-- What is stored behind stored words is stored with them.
pub sets_append : (l : List ℕ) (at : ℕ) (a b : List ℕ) → sets l at (a ++ b) ≡ sets (sets l at a) (at + length a) b
sets_append l at [] b = rw add-zero
sets_append l at (v ∷ a) b =
    let shift : at + suc (length a) ≡ suc at + length a = omega arith in
    sets_append (set l at v) (suc at) a b ∙ rw shift

-- A loop that stores one word from a place to another: a turn, and the end.
pub fill_turn : (l : List ℕ) (at end word : ℕ) → at < end
    → sets l at (replicate (end - at) word) ≡ sets (set l at word) (at + 1) (replicate (end - (at + 1)) word)
fill_turn l at end word more = let left : end - at ≡ suc (end - (at + 1)) = omega arith in rw (left, add-one at)

pub fill_none : (l : List ℕ) (at end word : ℕ) → end ≤ at → sets l at (replicate (end - at) word) ≡ l
fill_none l at end word done = let none : end - at ≡ 0 = omega arith in rw none

drop_all : (l : List ℕ) (n : ℕ) → n ≡ length l → drop n l ≡ []
drop_all [] n h = rw h
drop_all (x ∷ l) zero h = absurd (omega arith)
drop_all (x ∷ l) (suc n) h = drop_all l n (omega arith)

-- Zeros stored in the whole of a list.
pub all-zeros : (l : List ℕ) → sets l 0 (replicate (length l - 0) 0) ≡ replicate (length l) 0
all-zeros l =
    let zeros : List ℕ = replicate (length l) 0 in
    let many : length zeros ≡ length l = length-replicate {A = ℕ} (length l) 0 in
    let whole : length l - 0 ≡ length l = omega arith in
    let none : drop (0 + length zeros) l ≡ [] = drop_all l (0 + length zeros) (omega arith) in
    ap (λ (n : ℕ). sets l 0 (replicate n 0)) whole ∙ sets-eq zeros l 0 (omega arith)
    ∙ ap (λ (m : List ℕ). zeros ++ m) none ∙ append-nil zeros

-- Copying n words, at a turn and at the end.
pub copy_turn :
    (out t : List ℕ) (i n : ℕ) → i < n → n ≤ length t →
    sets out i (drop i (take n t)) ≡ sets (set out i (get_or t i 0)) (i + 1) (drop (i + 1) (take n t))
copy_turn out t i n inside room =
    let size : length (take n t) ≡ n = length-take n t ∙ (omega arith) in
    let here : i < length (take n t) = omega arith in
    rw (drop-cons (take n t) i 0 here, get_or-take n t i 0 inside, add-one i)

pub copy_done : (out t : List ℕ) (i n : ℕ) → n ≤ i → sets out i (drop i (take n t)) ≡ out
copy_done out t i n past = rw (drop_past (take n t) i (rw length-take (omega arith)))
  where
    drop_past : (l : List ℕ) (j : ℕ) → length l ≤ j → drop j l ≡ []
    drop_past [] zero low = refl
    drop_past [] (suc j) low = refl
    drop_past (x ∷ l) zero low = absurd (omega arith)
    drop_past (x ∷ l) (suc j) low = drop_past l j (omega arith)
