-- A walk that stays below N meets a slot again, within N steps. What stands between is a loop, where each slot of the
-- walk reads the next.
use mathlib.Core.Path.{◌≡◌, sym, ap, ◌∙◌}
use mathlib.Core.Logic.{◌≢◌}
use mathlib.Core.Bool.{Bool, true, true≢false}
use mathlib.Core.Option.{none, some}
use mathlib.Core.List.{List}
use Prim.Native.Nat.{ℕ, suc, ◌+◌, ◌-◌, ◌≤◌, ◌<◌}
use native.Mathlib.Omega.{arith}
use native.Mathlib.Nat.{add-zero}
use lib.ListN.{get_or, length}
use lib.Dec.{eqb, eqb→eq}
use Rattle.logic.proofs.TableLaws.{length-tab}
use Rattle.working_out.specs.Order.{is_some}
use Rattle.working_out.specs.Graph as g
use Rattle.working_out.proofs.OrderLaws.{eqb_same, IsLowest, lowest-some, Twice, pigeon}
use Rattle.working_out.proofs.GraphLaws.{Undone, walk-undone, walk-reads}
use Rattle.loops.specs.Run.{met_at, again, between, loop_of}
use Rattle.loops.specs.Is.{Distinct, IsLoop}
use Rattle.loops.proofs.LowestLaws.{get_d_tab, lowest_below, lowest-there, is-some}

-- A place at which a slot is met that was met before.
pub met_is : (walk : ℕ → ℕ) (i j : ℕ) → i < j → walk i ≡ walk j → is_some (met_at walk j) ≡ true
unfolding met_at
met_is walk i j l e = lowest-there j (λ i. eqb (walk i) (walk j)) i l (rw e (eqb_same (walk j)))

-- The first slot met again: met at the places `first` and `next`, and none twice before `next`.
pub record Met (N : ℕ) (walk : ℕ → ℕ) : Type 0 where
  pub first : ℕ
  pub next : ℕ
  pub found : again N walk ≡ some next
  pub was : met_at walk next ≡ some first
  pub before : first < next
  pub within : next ≤ N
  pub same : walk first ≡ walk next
  pub once : (i j : ℕ) → i < j → j < next → walk i ≢ walk j

module _ (N : ℕ) (walk : ℕ → ℕ) where
  -- What is found first is met before, at a place found first, and nothing up to it is met twice.
  pub met_at_lem : (j : ℕ) → again N walk ≡ some j → Met N walk
  unfolding again met_at
  met_at_lem j e = record {
    first = place.0;
    next = j;
    found = e;
    was = place.1;
    before = held.below;
    within = let l = met.below in omega arith;
    same = eqb→eq (walk place.0) (walk j) (rw held.holds tt);
    once = once;
  }
    where
      met : IsLowest (suc N) (λ k. is_some (met_at walk k)) j
      met = lowest-some (suc N) (λ k. is_some (met_at walk k)) j e

      place : (i : ℕ) × (met_at walk j ≡ some i)
      place = is-some (met_at walk j) met.holds

      held : IsLowest j (λ i. eqb (walk i) (walk j)) place.0
      held = lowest-some j (λ i. eqb (walk i) (walk j)) place.0 place.1

      once : (a b : ℕ) → a < b → b < j → walk a ≢ walk b
      once a b l h s =
          true≢false (sym (met_is walk a b l s) ∙ lowest_below (suc N) (λ k. is_some (met_at walk k)) j e b h)

  -- By the pigeonhole there is a slot met again, where the walk stays below N.
  pub meets : ((k : ℕ) → walk k < N) → Met N walk
  unfolding again
  meets low = met_at_lem found.0 found.1
    where
      twice : Twice N walk
      twice = pigeon N walk (λ i _. low i)

      found : (j : ℕ) × (again N walk ≡ some j)
      found =
          let high = twice.within in
          is-some (again N walk) (lowest-there (suc N) (λ k. is_some (met_at walk k)) twice.j (omega arith)
          (met_is walk twice.i twice.j twice.before twice.same))

  module _ (met : Met N walk) where
    -- The loop is what stands between the two places.
    pub loop_between : loop_of N walk ≡ between walk met.first met.next
    unfolding loop_of
    loop_between = rw (met.found, met.was)

    -- Its length, and each of its slots.
    pub loop_length : length (loop_of N walk) ≡ met.next - met.first
    loop_length =
        ap (λ (l : List ℕ). length l) loop_between
        ∙ length-tab (met.next - met.first) (λ k. walk (met.first + k))

    pub loop_at : (k : ℕ) → k < met.next - met.first → get_or (loop_of N walk) k 0 ≡ walk (met.first + k)
    loop_at k l =
        ap (λ (m : List ℕ). get_or m k 0) loop_between
        ∙ get_d_tab (met.next - met.first) k (λ k. walk (met.first + k)) l

    -- It has no slot twice.
    pub loop_once : Distinct (loop_of N walk)
    loop_once i j l h e =
        let long = loop_length in
        let low = met.before in
        met.once (met.first + i) (met.first + j) (omega arith) (omega arith)
        (sym (loop_at i (omega arith)) ∙ e ∙ loop_at j (omega arith))

    -- It is a loop where each slot of the walk reads the next.
    pub loop_is : (reads : ℕ → ℕ → Bool) → ((k : ℕ) → reads (walk k) (walk (suc k)) ≡ true)
        → IsLoop reads (loop_of N walk)
    loop_is reads each =
        record { some = omega (arith, loop_length, met.before); next = next; closed = closed; once = loop_once }
      where
        next : (k : ℕ) → k + 1 < length (loop_of N walk)
            → reads (get_or (loop_of N walk) k 0) (get_or (loop_of N walk) (k + 1) 0) ≡ true
        next k l =
            let long = loop_length in
            let place : met.first + (k + 1) ≡ suc (met.first + k) = omega arith in
            rw (loop_at k (omega arith), loop_at (k + 1) (omega arith), place) (each (met.first + k))

        closed : reads (get_or (loop_of N walk) (length (loop_of N walk) - 1) 0) (get_or (loop_of N walk) 0 0) ≡ true
        closed =
            let low = met.before in
            let k : ℕ = met.next - met.first - 1 in
            let here : suc (met.first + k) ≡ met.next = omega arith in
            let start : get_or (loop_of N walk) 0 0 ≡ walk (suc (met.first + k)) =
            loop_at 0 (omega arith) ∙ ap walk (add-zero met.first) ∙ met.same ∙ ap walk (sym here) in
            rw (loop_length, start, loop_at k (omega arith)) (each (met.first + k))

-- Where none is ready, the walk from a node that is not done stays among the nodes that are not done, and makes a loop.
module _ (N : ℕ) (reads : ℕ → ℕ → Bool) (done : ℕ → Bool) (stuck : g.lowest_ready N reads done ≡ none)
    (a : ℕ) (u : Undone N reads done a) where
  pub walk_meets : Met N (g.walk N reads done a)
  walk_meets = meets N (g.walk N reads done a) (λ k. (walk-undone N reads done stuck a u k).low)

  -- The loop made is one of reads.
  pub walk_loop : IsLoop reads (loop_of N (g.walk N reads done a))
  walk_loop = loop_is N (g.walk N reads done a) walk_meets reads (walk-reads N reads done stuck a u)
