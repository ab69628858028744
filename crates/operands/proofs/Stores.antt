-- Words stored one after the other. Assumes nothing.
use mathlib.Core.Path.{◌≡◌, sym, ap, ap₂, ◌∙◌}
use mathlib.Core.List.{List, [], ◌∷◌, ◌++◌, append_assoc}
use Prim.Native.Nat.{ℕ, suc, ◌+◌, ◌-◌, ◌<◌, ◌≤◌}
use native.Mathlib.Nat.{add-zero, zero-add, sub-zero}
use native.Mathlib.Numerals.{add-one}
use native.Mathlib.Omega.{arith}
use lib.ListN.{length, set, take, drop, replicate, length-append}
use lib.Seq.{sets, sets-eq, take-append-le, drop-append-le}
use Rattle.logic.specs.Table.{tab}
use Rattle.logic.proofs.TableLaws.{tab_ext}

-- ---- a loop that stores f 0, f 1, .. f (n - 1)

module _ (f : ℕ → ℕ) where
  -- What is left to store after i of n.
  abbrev pub rest : ℕ → ℕ → List ℕ
  rest n i = tab (n - i) (λ j. f (i + j))

  pub rest_all : (n : ℕ) → tab n f ≡ rest n 0
  rest_all n = rw sub-zero (tab_ext n f (λ j. f (0 + j)) (λ j l. ap f (sym (zero-add j))))

  rest_cons : (n i : ℕ) → i < n → rest n i ≡ f i ∷ rest n (i + 1)
  unfolding tab
  rest_cons n i more =
      let left : n - i ≡ suc (n - (i + 1)) = omega arith in
      rw left (ap₂ (λ (a : ℕ) (r : List ℕ). a ∷ r) (ap f (add-zero i))
      (tab_ext (n - (i + 1)) (λ j. f (i + suc j)) (λ j. f (i + 1 + j)) (λ j l. ap f (one_on j))))
    where
      one_on : (j : ℕ) → i + suc j ≡ i + 1 + j
      one_on j = omega arith

  pub rest_turn : (l : List ℕ) (at n i : ℕ) → i < n
      → sets l at (rest n i) ≡ sets (set l at (f i)) (at + 1) (rest n (i + 1))
  rest_turn l at n i more = rw (rest_cons n i more, add-one at)

  pub rest_none : (l : List ℕ) (at n i : ℕ) → n ≤ i → sets l at (rest n i) ≡ l
  unfolding tab
  rest_none l at n i done = let none : n - i ≡ 0 = omega arith in rw none

-- ---- stores after stores

-- What is stored at the start of a list stands there, before the rest.
pub sets_front : (l vs : List ℕ) → length vs ≤ length l → sets l 0 vs ≡ vs ++ drop (length vs) l
sets_front l vs room = rw zero-add at (sets-eq vs l 0 (rw zero-add room))

-- Stored within stored words: the words before, these, and the words after.
pub sets_within : (l vs us : List ℕ) (at : ℕ) → length vs ≤ length l → at + length us ≤ length vs
    → sets (sets l 0 vs) at us ≡ (take at vs ++ (us ++ drop (at + length us) vs)) ++ drop (length vs) l
sets_within l vs us at room within =
    let more = drop (length vs) l in
    let fits : at + length us ≤ length (vs ++ more) = simp length-append (omega arith) in
    rw (sets_front l vs room) (sets-eq us (vs ++ more) at fits ∙
    rw (take-append-le at vs more (omega arith), drop-append-le (at + length us) vs more within) (simp append_assoc))
