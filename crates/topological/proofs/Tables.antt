-- Laws of the tables with a word for each number below 4,096, and of the sets as trees. Assumes nothing.
use mathlib.Core.Path.{◌≡◌, refl, sym, ◌∙◌}
use mathlib.Core.Logic.{◌≢◌}
use mathlib.Core.Bool.{Bool}
use mathlib.Core.List.{List}
use Prim.Native.Nat.{ℕ, zero, suc, ◌≤◌, ◌<◌}
use native.Mathlib.Omega.{arith}
use native.Mathlib.Decide.{ℕ_discrete, dec_lt}
use lib.ListN.{get_or, set, length-set, replicate, length-replicate, get_or-eq_default}
use lib.Seq.{get_or-set_same, get_or-set_other}
use Rattle.lowest_set.specs.Tree.{Holds}
use Rattle.topological.specs.State.{Words}

-- A word of a table stored: the other words stay.
pub words-set : {words : List ℕ} {old new : ℕ → ℕ} (i v : ℕ) → Words words old → (i < 4096 → v ≡ new i)
    → ((j : ℕ) → j ≢ i → old j ≡ new j) → Words (set words i v) new
words-set {words} {old} {new} i v w same other = record {
  size = length-set words i v ∙ w.size;
  at = λ j l. go j l (ℕ_discrete j i);
}
  where
    go : (j : ℕ) → j < 4096 → Dec (j ≡ i) → get_or (set words i v) j 0 ≡ new j
    go j l (yes e) =
        let s = w.size in
        rw (e, get_or-set_same words i v 0 (omega arith)) (same (omega arith))
    go j l (no d) = rw (get_or-set_other words i j v 0 d) (w.at j l ∙ other j d)

-- The same words by another function of the same values.
pub words_same : {words : List ℕ} {old new : ℕ → ℕ} → Words words old
    → ((i : ℕ) → i < 4096 → old i ≡ new i) → Words words new
words_same w same = record { size = w.size; at = λ i l. w.at i l ∙ same i l }

-- A bound of the values bounds every word, also past the end.
pub words-low : {words : List ℕ} {value : ℕ → ℕ} (n : ℕ) → Words words value → ((i : ℕ) → value i ≤ n)
    → (i : ℕ) → get_or words i 0 ≤ n
words-low {words} {value} n w low i = go (dec_lt i 4096)
  where
    go : Dec (i < 4096) → get_or words i 0 ≤ n
    go (yes l) = omega (arith, w.at i l, low i)
    go (no d) = let s = w.size in omega (arith, get_or-eq_default words 0 {n = i} (omega arith))

-- The same tree by another test of the same members.
pub holds_same : {tree : List ℕ} {old new : ℕ → Bool} → Holds tree old → ((i : ℕ) → i < 4096 → old i ≡ new i)
    → Holds tree new
holds_same h same = record {
  size = h.size;
  leaf = λ i l. rw (← same i l) (h.leaf i l);
  inner = h.inner;
}

-- A table of zeros.
zeros-at : (n i : ℕ) → ◌≡◌ {A = ℕ} (get_or (replicate n 0) i 0) 0
zeros-at zero i = refl
zeros-at (suc n) zero = refl
zeros-at (suc n) (suc i) = zeros-at n i

pub words-zeros : {value : ℕ → ℕ} → ((i : ℕ) → value i ≡ 0) → Words (replicate 4096 0) value
words-zeros none = record {
  size = length-replicate {A = ℕ} 4096 0;
  at = λ i l. zeros-at 4096 i ∙ sym (none i);
}
