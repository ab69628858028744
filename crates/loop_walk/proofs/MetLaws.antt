-- Laws of the table of the places at which each node of a walk was met first. Assumes nothing.
use mathlib.Core.Path.{◌≡◌, refl, sym, ◌∙◌}
use mathlib.Core.Bool.{true, false}
use mathlib.Core.Option.{Option, none, some}
use mathlib.Core.List.{List, []}
use Prim.Native.Nat.{ℕ, suc, ◌+◌, ◌≤◌, ◌<◌}
use native.Mathlib.Omega.{arith}
use native.Mathlib.Decide.{ℕ_discrete}
use native.Mathlib.Numerals.{add-one}
use lib.ListN.{length, get_or, set, replicate, get_or-replicate}
use lib.Seq.{get_or-set_same, get_or-set_other}
use lib.Dec.{eqb}
use borrow.Author.Tests.{ne_eqb, eq-eqb}
use Rattle.working_out.specs.Order.{option, is_some, lowest}
use Rattle.working_out.proofs.OrderLaws.{lowest-some}
use Rattle.loops.specs.Run.{met_at, again, between, loop_of}
use Rattle.loop_walk.proofs.FirstLaws.{first-lowest, found_below, found_none}

-- The first k nodes of a walk are all different, and the table has the place of each, n for the others.
pub record Followed (n : ℕ) (walk : ℕ → ℕ) (k : ℕ) (met : List ℕ) : Type 0 where
  pub within : k ≤ n
  pub places : (x : ℕ) → x < 4096 → get_or met x 0 ≡ option (lowest k (λ i. eqb (walk i) x)) n (λ i. i)
  pub once : (j : ℕ) → j < k → met_at walk j ≡ none

-- Before the first step.
pub followed_start : (n : ℕ) (walk : ℕ → ℕ) → Followed n walk 0 (replicate 4096 n)
unfolding lowest
followed_start n walk =
    record { within = omega arith; places = λ x l. get_or-replicate 4096 x n 0 l; once = λ j l. absurd (omega arith) }

module _ (n : ℕ) (walk : ℕ → ℕ) (k : ℕ) (met : List ℕ) (here : Followed n walk k met) (low : walk k < 4096) where
  -- The table at the next node has the place at which it was met first.
  pub met_first : get_or met (walk k) 0 ≡ option (met_at walk k) n (λ i. i)
  unfolding met_at
  met_first = here.places (walk k) low

  -- A node that was met was met before.
  met_before : (i : ℕ) → met_at walk k ≡ some i → i < k
  unfolding met_at
  met_before i e = (lowest-some k (λ i. eqb (walk i) (walk k)) i e).below

  -- No place is past n, and a place below n is before this one.
  pub first_le : get_or met (walk k) 0 ≤ n
  first_le = go (met_at walk k) refl
    where
      go : (o : Option ℕ) → met_at walk k ≡ o → get_or met (walk k) 0 ≤ n
      go none e = rw (met_first, e) (omega arith)
      go (some i) e =
          let l = met_before i e in
          let w = here.within in
          rw (met_first, e) (omega arith)

  pub first-before : get_or met (walk k) 0 < n → get_or met (walk k) 0 < k
  first-before = go (met_at walk k) refl
    where
      go : (o : Option ℕ) → met_at walk k ≡ o → get_or met (walk k) 0 < n → get_or met (walk k) 0 < k
      go none e h = let v : get_or met (walk k) 0 ≡ n = rw (met_first, e) in absurd (omega arith)
      go (some i) e h = rw (met_first, e) (met_before i e)

  -- A place below n is that of a node met before, and n that of a node not met.
  pub met_again : get_or met (walk k) 0 < n → met_at walk k ≡ none → n ≤ k
  met_again l e = let v : get_or met (walk k) 0 ≡ n = rw (met_first, e) in absurd (omega arith)

  pub not_met : n ≤ get_or met (walk k) 0 → met_at walk k ≡ none
  not_met = go (met_at walk k) refl
    where
      go : (o : Option ℕ) → met_at walk k ≡ o → n ≤ get_or met (walk k) 0 → met_at walk k ≡ none
      go none e h = e
      go (some i) e h =
          let v : get_or met (walk k) 0 ≡ i = rw (met_first, e) in
          let l = met_before i e in
          let w = here.within in
          absurd (omega arith)

  -- A step: a node that was not met before is met at this place.
  module _ (long : length met ≡ 4096) (fresh : met_at walk k ≡ none) where
    place-now : (x : ℕ) → x < 4096 → Dec (x ≡ walk k)
        → get_or (set met (walk k) k) x 0 ≡ option (lowest (suc k) (λ i. eqb (walk i) x)) n (λ i. i)
    unfolding lowest met_at
    place-now x l (yes e) =
        rw (e, fresh, eq-eqb (walk k) (walk k) refl) (get_or-set_same met (walk k) k 0 (omega arith))
    place-now x l (no e) =
        rw (ne_eqb (walk k) x (λ q. e (sym q)))
        (get_or-set_other met (walk k) x k 0 e ∙ here.places x l ∙ go (lowest k (λ i. eqb (walk i) x)))
      where
        go : (o : Option ℕ) → option o n (λ i. i) ≡ option (option o none some) n (λ i. i)
        go none = refl
        go (some i) = refl

    once-now : (j : ℕ) → j < suc k → Dec (j ≡ k) → met_at walk j ≡ none
    once-now j l (yes e) = rw e fresh
    once-now j l (no e) = here.once j (omega arith)

    pub followed_turn : k < n → Followed n walk (k + 1) (set met (walk k) k)
    followed_turn l = rw (add-one k) (record {
      within = l;
      places = λ x l. place-now x l (ℕ_discrete x (walk k));
      once = λ j l. once-now j l (ℕ_discrete j k);
    })

  -- The end: at the first node met again, or where n nodes were met and this one was not met before.
  module _ (ends : met_at walk k ≡ none → n ≤ k) where
    again-some : (i : ℕ) → met_at walk k ≡ some i → again n walk ≡ some k
    unfolding again
    again-some i e =
        let w = here.within in
        let passes : is_some (met_at walk k) ≡ true = rw e in
        first-lowest (suc n) (λ j. is_some (met_at walk j)) k
        (record { within = omega arith; before = λ j l. rw (here.once j l); here = λ _. passes })
        ∙ found_below (suc n) k (omega arith)

    again-none : met_at walk k ≡ none → again n walk ≡ none
    unfolding again
    again-none e =
        let w = ends e in
        first-lowest (suc n) (λ j. is_some (met_at walk j)) (suc n)
        (record {
          within = omega arith;
          before = λ j l. fails j (omega arith) (ℕ_discrete j k);
          here = λ l. absurd (omega arith);
        })
        ∙ found_none (suc n) (suc n) (omega arith)
      where
        fails : (j : ℕ) → j ≤ k → Dec (j ≡ k) → is_some (met_at walk j) ≡ false
        fails j l (yes q) = rw (q, e)
        fails j l (no q) = rw (here.once j (omega arith))

    pub loop_found : loop_of n walk ≡ option (met_at walk k) [] (λ i. between walk i k)
    unfolding loop_of
    loop_found = go (met_at walk k) refl
      where
        go : (o : Option ℕ) → met_at walk k ≡ o → loop_of n walk ≡ option (met_at walk k) [] (λ i. between walk i k)
        go none e = rw (again-none e, e)
        go (some i) e = rw (again-some i e)
