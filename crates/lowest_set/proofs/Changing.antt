-- Laws of a tree in which one leaf is changed and the words above it are computed again. Assumes nothing.
use mathlib.Core.Path.{◌≡◌, refl, ◌∙◌}
use mathlib.Core.Logic.{◌≢◌}
use mathlib.Core.Bool.{Bool, false, cond}
use mathlib.Core.List.{List}
use Prim.Native.Nat.{ℕ, ◌+◌, ◌*◌, ◌/◌, ◌<◌, max}
use native.Mathlib.Omega.{arith}
use native.Mathlib.Decide.{ℕ_discrete}
use lib.ListN.{get_or, set, length, replicate, length-set, length-replicate, get_or-replicate}
use lib.Seq.{get_or-set_same, get_or-set_other}
use borrow.Author.Tests.{ne_eqb}
use Rattle.working_out.specs.Graph.{mark}
use Rattle.working_out.proofs.OrderLaws.{eqb_same}
use Rattle.working_out.proofs.GraphLaws.{mark-same, mark-other}
use Rattle.lowest_set.specs.Change.{Changes}
use Rattle.lowest_set.specs.Tree.{Holds, without}

-- The word at p is the larger of the two below it.
abbrev pub Right : List ℕ → ℕ → Type 0
Right tree p = get_or tree p 0 ≡ max (get_or tree (2 * p) 0) (get_or tree (2 * p + 1) 0)

-- The tree of a set, in which the word at p alone may be wrong.
pub record Except (tree : List ℕ) (members : ℕ → Bool) (p : ℕ) : Type 0 where
  pub size : length tree ≡ 8192
  pub low : p < 4096
  pub leaf : (i : ℕ) → i < 4096 → get_or tree (4096 + i) 0 ≡ cond (members i) 1 0
  pub inner : (q : ℕ) → 0 < q → q < 4096 → q ≢ p → Right tree q

-- A word stored at p makes no other word wrong than that at p and that above it.
right_kept : (tree : List ℕ) (p word q : ℕ) → q ≢ p → q ≢ p / 2 → Right tree q → Right (set tree p word) q
right_kept tree p word q here above h =
    rw (
      get_or-set_other tree p q word 0 here,
      get_or-set_other tree p (2 * q) word 0 (omega arith),
      get_or-set_other tree p (2 * q + 1) word 0 (omega arith),
    ) h

-- A leaf is stored: the word above it may be wrong.
pub leaf-stored : {tree : List ℕ} {before after : ℕ → Bool} {i word : ℕ} → Holds tree before → i < 4096
    → Changes before after i word → Except (set tree (4096 + i) word) after ((4096 + i) / 2)
leaf-stored {tree} {before} {after} {i} {word} holds below changes = record {
  size = length-set tree (4096 + i) word ∙ holds.size;
  low = omega arith;
  leaf = λ j h. leaf j h (ℕ_discrete j i);
  inner = λ q h l ne. right_kept tree (4096 + i) word q (omega arith) ne (holds.inner q h l);
}
  where
    leaf : (j : ℕ) → j < 4096 → Dec (j ≡ i) → get_or (set tree (4096 + i) word) (4096 + j) 0 ≡ cond (after j) 1 0
    leaf j h (yes e) =
        let long = holds.size in rw e (get_or-set_same tree (4096 + i) word 0 (omega arith) ∙ changes.there)
    leaf j h (no ne) =
        get_or-set_other tree (4096 + i) (4096 + j) word 0 (omega arith) ∙ holds.leaf j h ∙ rw (changes.other j ne)

-- The word at p is computed again: the one above it may be wrong.
pub word_computed : {tree : List ℕ} {members : ℕ → Bool} {p left right word : ℕ} → Except tree members p → 0 < p
    → left ≡ get_or tree (2 * p) 0 → right ≡ get_or tree (2 * p + 1) 0 → word ≡ max left right
    → Except (set tree p word) members (p / 2)
word_computed {tree} {members} {p} {left} {right} {word} except pos of_left of_right e = record {
  size = length-set tree p word ∙ except.size;
  low = omega (arith, except.low);
  leaf = λ i h. get_or-set_other tree p (4096 + i) word 0 (omega (arith, except.low)) ∙ except.leaf i h;
  inner = λ q h l ne. inner q h l ne (ℕ_discrete q p);
}
  where
    inner : (q : ℕ) → 0 < q → q < 4096 → q ≢ p / 2 → Dec (q ≡ p) → Right (set tree p word) q
    inner q h l ne (yes same) =
        let long = except.size in
        rw (
          same,
          get_or-set_same tree p word 0 (omega arith),
          get_or-set_other tree p (2 * p) word 0 (omega arith),
          get_or-set_other tree p (2 * p + 1) word 0 (omega arith),
          ← of_left,
          ← of_right,
        ) e
    inner q h l ne (no other) = right_kept tree p word q other ne (except.inner q h l other)

-- Above the root there is no word that may be wrong.
pub all_right : {tree : List ℕ} {members : ℕ → Bool} {p : ℕ} → Except tree members p → p ≡ 0 → Holds tree members
all_right except e =
    record { size = except.size; leaf = except.leaf; inner = λ q h l. except.inner q h l (omega arith) }

-- The set with one more, and the set with one less, differ from the set in that one.
pub mark_changes : (members : ℕ → Bool) (i : ℕ) → Changes members (mark members i) i 1
mark_changes members i = record { other = mark-other members i; there = rw (mark-same members i) }

pub without_changes : (members : ℕ → Bool) (i : ℕ) → Changes members (without members i) i 0
unfolding without
without_changes members i = record { other = λ j ne. rw (ne_eqb j i ne); there = rw (eqb_same i) }

-- Zeros are the tree of the empty set.
zeros_hold : (n : ℕ) → n ≡ 8192 → Holds (replicate n 0) (λ _. false)
zeros_hold n e = record {
  size = length-replicate n 0 ∙ e;
  leaf = λ i h. zero-at (4096 + i) (omega arith);
  inner = λ p h l. rw (zero-at p (omega arith), zero-at (2 * p) (omega arith), zero-at (2 * p + 1) (omega arith));
}
  where
    zero-at : (i : ℕ) → i < 8192 → ◌≡◌ {A = ℕ} (get_or (replicate n 0) i 0) 0
    zero-at i h = get_or-replicate n i 0 0 (omega arith)

pub empty_holds : Holds (replicate 8192 0) (λ _. false)
empty_holds = zeros_hold 8192 refl
