-- Laws of the first number below a bound that passes a test. Assumes nothing.
use mathlib.Core.Path.{◌≡◌, refl, sym, ◌∙◌}
use mathlib.Core.Bool.{Bool, true, false, not, cond}
use mathlib.Core.Option.{Option, none, some}
use mathlib.Core.List.{List}
use Prim.Native.Nat.{ℕ, ◌≤◌, ◌<◌}
use native.Mathlib.Omega.{arith}
use native.Mathlib.Decide.{dec_lt}
use lib.Dec.{eqb, ltb}
use lib.ListN.{length}
use borrow.Author.Tests.{lt-ltb, le-ltb}
use Rattle.working_out.specs.Order.{option, lowest}
use Rattle.working_out.proofs.OrderLaws.{lowest-some, not-true}
use Rattle.std.specs.Prelude.{Some, None, unwrap_or, position}
use Rattle.std.specs.List.{position_or_len}
use Rattle.std.proofs.lemmas.List.Sums.{fails_before_first, passes_at_first}
use Rattle.loops.specs.Edges.{done_in}
use Rattle.loops.specs.Run.{lowest_left}
use Rattle.loops.proofs.LowestLaws.{lowest-is, lowest-is-none}
use Rattle.loop_walk.specs.First.{First}

-- The optional number that the first stands for: none at the bound.
abbrev pub found : ℕ → ℕ → Option ℕ
found n v = cond (ltb v n) (some v) none

-- There is one below the bound, and none at it.
pub found_below : (n v : ℕ) → v < n → found n v ≡ some v
found_below n v l = rw (lt-ltb v n l)

pub found_none : (n v : ℕ) → n ≤ v → found n v ≡ none
found_none n v l = rw (le-ltb v n l)

-- It is the lowest.
pub first-lowest : (n : ℕ) (p : ℕ → Bool) (v : ℕ) → First n p v → lowest n p ≡ found n v
first-lowest n p v f = go (dec_lt v n)
  where
    go : Dec (v < n) → lowest n p ≡ found n v
    go (yes l) = lowest-is n p v l (f.here l) f.before ∙ sym (found_below n v l)
    go (no l) =
        let all = f.within in
        lowest-is-none n p (λ j h. f.before j (omega arith)) ∙ sym (found_none n v (omega arith))

-- What is found, and another number where nothing is.
pub found_or : {X : Type 0} (n v : ℕ) (x : X) (f : ℕ → X) → option (found n v) x f ≡ cond (ltb v n) (f v) x
found_or n v x f = go (ltb v n)
  where
    go : (t : Bool) → option (cond t (some v) none) x f ≡ cond t (f v) x
    go true = refl
    go false = refl

-- The lowest node that is not done: a node before which all are done, and 0 where all are.
module _ (n : ℕ) (reads : ℕ → ℕ → Bool) (done : ℕ → Bool) where
  pub left_found : (a : ℕ) → a < n → ((j : ℕ) → j < a → done j ≡ true) → done a ≡ false → a ≡ lowest_left n reads done
  unfolding lowest_left
  left_found a l all left =
      let first : First n (λ a. not (done a)) a =
      record { within = omega arith; before = λ j l. rw (all j l); here = λ _. rw left } in
      rw (first-lowest n (λ a. not (done a)) a first, found_below n a l)

  pub left-none : ((j : ℕ) → j < n → done j ≡ true) → 0 ≡ lowest_left n reads done
  unfolding lowest_left
  left-none all =
      let first : First n (λ a. not (done a)) n =
      record { within = omega arith; before = λ j l. rw (all j l); here = λ l. absurd (omega arith) } in
      rw (first-lowest n (λ a. not (done a)) n first, found_none n n (omega arith))

  pub left_below : n ≤ 4096 → lowest_left n reads done < 4096
  unfolding lowest_left
  left_below small = go (lowest n (λ a. not (done a))) refl
    where
      go : (o : Option ℕ) → lowest n (λ a. not (done a)) ≡ o → option o 0 (λ a. a) < 4096
      go none e = omega arith
      go (some a) e = let l = (lowest-some n (λ a. not (done a)) a e).below in omega arith

not-false : (b : Bool) → not b ≡ false → b ≡ true
not-false true e = refl
not-false false e = cc

-- By the flags: the place of the first that is not 0.
pub left-by_flags : (flags : List ℕ) (reads : ℕ → ℕ → Bool)
    → unwrap_or (position (λ flag. not (eqb flag 0)) flags) 0 ≡ lowest_left (length flags) reads (done_in flags)
unfolding done_in
left-by_flags flags reads = go (dec_lt i (length flags))
  where
    left : ℕ → Bool
    left flag = not (eqb flag 0)

    i : ℕ
    i = position_or_len left flags

    go : Dec (i < length flags)
        → unwrap_or (cond (ltb i (length flags)) (Some i) None) 0 ≡ lowest_left (length flags) reads (done_in flags)
    go (yes l) =
        rw (lt-ltb i (length flags) l)
        (left_found (length flags) reads (done_in flags) i l
        (λ j m. not-false _ (fails_before_first left flags j 0 m)) (not-true _ (passes_at_first left flags 0 l)))
    go (no l) =
        rw (le-ltb i (length flags) (omega arith))
        (left-none (length flags) reads (done_in flags)
        (λ j m. not-false _ (fails_before_first left flags j 0 (omega arith))))
