-- Comparing a part of the text with a word.
use mathlib.Core.Path.{◌≡◌, refl, sym, ap}
use mathlib.Core.Bool.{Bool, ◌&&◌}
use mathlib.Core.List.{List, [], ◌∷◌}
use Prim.Native.Nat.{ℕ, ◌+◌, ◌-◌, ◌≤◌}
use native.Mathlib.Omega.{arith}
use lib.Dec.{eqb}
use lib.ListN.{take, drop}
use lib.Pointwise.{pointwise}
use lib.Seq.{slice}
use Rattle.std.proofs.lemmas.List.{drop-take}
use Rattle.reply.specs.Reply.{same}

-- Spellings are equal where they are as long, and equal byte by byte.
same_pointwise : (a b : List ℕ) → same a b ≡ pointwise eqb a b
unfolding same
same_pointwise [] [] = refl
same_pointwise [] (y ∷ b) = refl
same_pointwise (x ∷ a) [] = refl
same_pointwise (x ∷ a) (y ∷ b) = ap (λ (r : Bool). eqb x y && r) (same_pointwise a b)

pub same_part : (text word : List ℕ) (start end : ℕ) → start ≤ end
    → pointwise eqb (take (end - start) (drop start text)) word ≡ same (slice start end text) word
same_part text word start end low =
    let all : start + (end - start) ≡ end = omega arith in
    rw (← drop-take start (end - start) text, all) (sym (same_pointwise (slice start end text) word))
