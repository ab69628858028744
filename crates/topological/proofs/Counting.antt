-- Laws of counts: of numbers that pass a test, and of the reads that a node waits for. Assumes nothing.
use mathlib.Core.Path.{◌≡◌, refl, sym}
use mathlib.Core.Logic.{◌≢◌}
use mathlib.Core.Bool.{Bool, true, false, not, cond, ◌&&◌, ◌||◌}
use mathlib.Core.List.{List}
use Prim.Native.Nat.{ℕ, zero, suc, ◌+◌, ◌≤◌, ◌<◌}
use native.Mathlib.Omega.{arith}
use native.Mathlib.Decide.{ℕ_discrete}
use lib.ListN.{get_or, set, replicate}
use lib.Dec.{eqb}
use native.Mathlib.Numerals.{add-one}
use borrow.Author.Tests.{eqb-true, eq-eqb, ne_eqb}
use Rattle.working_out.specs.Graph.{mark}
use Rattle.topological.specs.State.{Words}
use Rattle.topological.proofs.Tables.{words-set, words_same, words-zeros}
use Rattle.topological.specs.Waiting.{count, reader_at, read_at, waiting, pending}

-- A test is counted as 1 at most.
one_at_most : (b : Bool) → cond b 1 0 ≤ 1
one_at_most true = omega arith
one_at_most false = omega arith

-- No more are counted than there are numbers.
count_le : (k : ℕ) (test : ℕ → Bool) → count k test ≤ k
unfolding count
count_le zero test = omega arith
count_le (suc k) test = omega (arith, one_at_most (test k), count_le k test)

-- A count of 0 says that no number passes.
pub count_none : (k : ℕ) (test : ℕ → Bool) → count k test ≡ 0 → (p : ℕ) → p < k → test p ≡ false
unfolding count
count_none zero test e p l = absurd (omega arith)
count_none (suc k) test e p l = go (count_none k test) (test k) refl e (ℕ_discrete p k)
  where
    go : (count k test ≡ 0 → (p : ℕ) → p < k → test p ≡ false) → (b : Bool) → test k ≡ b
        → cond b 1 0 + count k test ≡ 0 → Dec (p ≡ k) → test p ≡ false
    go rec true q z d = absurd (omega arith)
    go rec false q z (yes s) = rw s q
    go rec false q z (no s) = rec (omega arith) p (omega arith)

-- Where none passes, the count is 0.
pub none-count : (k : ℕ) (test : ℕ → Bool) → ((p : ℕ) → p < k → test p ≡ false) → count k test ≡ 0
unfolding count
none-count zero test none = refl
none-count (suc k) test none =
    let rest = none-count k test (λ p l. none p (omega arith)) in
    rw (none k (omega arith)) (omega arith)

-- Numbers that pass just one of two tests.
pub count-sum : (k : ℕ) (one two both : ℕ → Bool)
    → ((p : ℕ) → p < k → cond (both p) 1 0 ≡ cond (one p) 1 0 + cond (two p) 1 0)
    → count k both ≡ count k one + count k two
unfolding count
count-sum zero one two both apart = refl
count-sum (suc k) one two both apart =
    omega (arith, count-sum k one two both (λ p l. apart p (omega arith)), apart k (omega arith))

-- No node waits for more reads than there are edges.
pub waiting_le : (edges : List ℕ) (done : ℕ → Bool) (k a : ℕ) → waiting edges done k a ≤ k
unfolding waiting
waiting_le edges done k a = count_le k _

-- What a node waits for until node b is done: what it waits for then, and its reads of b.
pub waiting-marked : (edges : List ℕ) (done : ℕ → Bool) (k b : ℕ) → done b ≡ false
    → (a : ℕ) → waiting edges done k a ≡ waiting edges (mark done b) k a + pending edges b k a
unfolding waiting pending mark
waiting-marked edges done k b undone a =
    count-sum k _ _ _ (λ p l. go (eqb (reader_at edges p) a) (read_at edges p) (eqb (read_at edges p) b) refl)
  where
    go : (own : Bool) (c : ℕ) (same : Bool) → eqb c b ≡ same
        → cond (own && not (done c)) 1 0 ≡ cond (own && not (same || done c)) 1 0 + cond (own && same) 1 0
    go false c same e = refl
    go true c true e = rw (eqb-true c b e, undone)
    go true c false e = omega arith

-- What one edge more counts: nothing where the node read is done, else one for its reader.
waiting-done : (edges : List ℕ) (done : ℕ → Bool) (k a : ℕ) → done (read_at edges k) ≡ true
    → waiting edges done k a ≡ waiting edges done (suc k) a
unfolding waiting count
waiting-done edges done k a d = rw d (go (eqb (reader_at edges k) a))
  where
    go : (own : Bool) → waiting edges done k a ≡ cond (own && false) 1 0 + waiting edges done k a
    go true = omega arith
    go false = omega arith

waiting_own : (edges : List ℕ) (done : ℕ → Bool) (k : ℕ) → done (read_at edges k) ≡ false
    → waiting edges done k (reader_at edges k) + 1 ≡ waiting edges done (suc k) (reader_at edges k)
unfolding waiting count
waiting_own edges done k d = rw (d, eq-eqb (reader_at edges k) (reader_at edges k) refl) (omega arith)

waiting-other : (edges : List ℕ) (done : ℕ → Bool) (k a : ℕ) → a ≢ reader_at edges k
    → waiting edges done k a ≡ waiting edges done (suc k) a
unfolding waiting count
waiting-other edges done k a d = rw (ne_eqb (reader_at edges k) a (λ e. d (sym e))) (omega arith)

-- An edge more, of a node that is done: nothing is counted.
pub counts-done : {waits : List ℕ} (edges : List ℕ) (done : ℕ → Bool) (k : ℕ)
    → Words waits (waiting edges done k)
    → done (read_at edges k) ≡ true → Words waits (waiting edges done (k + 1))
counts-done {waits} edges done k w d = words_same w (λ a _. rw (add-one k) (waiting-done edges done k a d))

-- An edge more, of a node that is not done: it is counted for its reader.
pub counts-one : {waits : List ℕ} (edges : List ℕ) (done : ℕ → Bool) (k : ℕ)
    → Words waits (waiting edges done k)
    → done (read_at edges k) ≡ false
    → Words (set waits (reader_at edges k) (get_or waits (reader_at edges k) 0 + 1)) (waiting edges done (k + 1))
counts-one {waits} edges done k w d =
    words-set (reader_at edges k) _ w
    (λ l. rw (add-one k, w.at (reader_at edges k) l) (waiting_own edges done k d))
    (λ a n. rw (add-one k) (waiting-other edges done k a n))

-- At the start no edge is counted.
pub counts-none : (edges : List ℕ) (done : ℕ → Bool) → Words (replicate 4096 0) (waiting edges done 0)
unfolding waiting count
counts-none edges done = words-zeros (λ a. refl)
