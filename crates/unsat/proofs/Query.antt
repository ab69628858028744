-- The query of a call list: what it asserts is true exactly where an argument of its and is false.
use mathlib.Core.Path.{◌≡◌, sym, ap, ◌∙◌, subst}
use mathlib.Core.Bool.{Bool, false, not}
use mathlib.Core.Logic.{◌↔◌}
use mathlib.Core.List.{List, [], ◌∷◌, ◌++◌, map}
use Prim.Native.Nat.{ℕ, suc, ◌+◌, ◌<◌}
use native.Mathlib.Omega.{arith}
use lib.ListN.{length}
use Rattle.engine.specs.Call.{Call}
use Rattle.engine.specs.Call as c
use Rattle.engine.specs.Meaning.{Value, bool, as_bool, all, Assignment, Asserted, run, value_at, terms, All, Earlier}
use Rattle.engine.proofs.Laws.{All-map, run_append, length_run, run_holds}
use Rattle.working_out.proofs.OrderLaws.{not-true}
use Rattle.order.proofs.MeantLaws.{truths}
use Rattle.requirement.specs.Requirement3.{query_calls}

-- ---- calls after others

asserted-left : (v : ℕ → Value) (cs ds : List Call) → Asserted v (cs ++ ds) → Asserted v cs
asserted-left v [] ds h = tt
asserted-left v (c.term t ∷ cs) ds h = asserted-left v cs ds h
asserted-left v (c.declare name w ∷ cs) ds h = asserted-left v cs ds h
asserted-left v (c.assert k ∷ cs) ds h = (h.0, asserted-left v cs ds h.1)
asserted-left v (c.check ∷ cs) ds h = asserted-left v cs ds h

asserted-right : (v : ℕ → Value) (cs ds : List Call) → Asserted v (cs ++ ds) → Asserted v ds
asserted-right v [] ds h = h
asserted-right v (c.term t ∷ cs) ds h = asserted-right v cs ds h
asserted-right v (c.declare name w ∷ cs) ds h = asserted-right v cs ds h
asserted-right v (c.assert k ∷ cs) ds h = asserted-right v cs ds h.1
asserted-right v (c.check ∷ cs) ds h = asserted-right v cs ds h

asserted-both : (v : ℕ → Value) (cs ds : List Call) → Asserted v cs → Asserted v ds → Asserted v (cs ++ ds)
asserted-both v [] ds h g = g
asserted-both v (c.term t ∷ cs) ds h g = asserted-both v cs ds h g
asserted-both v (c.declare name w ∷ cs) ds h g = asserted-both v cs ds h g
asserted-both v (c.assert k ∷ cs) ds h g = (h.0, asserted-both v cs ds h.1 g)
asserted-both v (c.check ∷ cs) ds h g = asserted-both v cs ds h g

earlier-right : (n : ℕ) (cs ds : List Call) → Earlier n (cs ++ ds) → Earlier (n + terms cs) ds
unfolding terms
earlier-right n [] ds e = subst (λ (k : ℕ). Earlier k ds) (omega arith) e
earlier-right n (c.term t ∷ cs) ds e =
    subst (λ (k : ℕ). Earlier k ds) (omega arith) (earlier-right (suc n) cs ds e.1)
earlier-right n (c.declare name w ∷ cs) ds e =
    subst (λ (k : ℕ). Earlier k ds) (omega arith) (earlier-right (suc n) cs ds e)
earlier-right n (c.assert k ∷ cs) ds e = earlier-right n cs ds e.1
earlier-right n (c.check ∷ cs) ds e = earlier-right n cs ds e

-- ---- the query after other calls

module _ (ρ : Assignment) (but : List Call) where
  abbrev queried : List ℕ → List Call
  queried asked = but ++ query_calls (terms but) asked

  -- The term that the query asserts has the value of the not of the and of its arguments.
  asserted-value : (o : ℕ) (more : List ℕ) → Earlier 0 (queried (o ∷ more)) →
      value_at (run ρ [] (queried (o ∷ more))) (suc (terms but))
      ≡ bool (not (all (truths (value_at (run ρ [] (queried (o ∷ more)))) (o ∷ more))))
  unfolding run truths
  asserted-value o more earlier =
      let n : length (run ρ [] but) ≡ terms but = length_run ρ [] but ∙ omega arith in
      let two : List Call = c.term (c.and (o ∷ more)) ∷ c.term (c.not (terms but)) ∷ [] in
      let before = (earlier-right 0 but (query_calls (terms but) (o ∷ more)) earlier).0 in
      let e : Earlier (length (run ρ [] but)) two = (
        All-map _ (λ k. k < length (run ρ [] but)) (λ k l. omega arith) (o ∷ more) before,
        ((omega arith, tt), tt),
      ) in
      let h = run_holds ρ (run ρ [] but) two e tt tt in
      let same : run ρ [] (queried (o ∷ more)) ≡ run ρ (run ρ [] but) two =
      run_append ρ [] but (query_calls (terms but) (o ∷ more)) in
      subst (λ (r : List Value). value_at r (suc (terms but))
      ≡ bool (not (all (map (λ k. as_bool (value_at r k)) (o ∷ more))))) (sym same)
      (rw n at h.1.0 ∙ ap (λ (x : Value). bool (not (as_bool x))) (rw n at h.0))

  -- All assertions are true exactly where those but the query are, and some argument of the query's and is false.
  pub query_means : (asked : List ℕ) → 0 < length asked → Earlier 0 (queried asked) →
      Asserted (value_at (run ρ [] (queried asked))) (queried asked)
      ↔ (Asserted (value_at (run ρ [] (queried asked))) but
      × (all (truths (value_at (run ρ [] (queried asked))) asked) ≡ false))
  query_means [] some earlier = absurd (omega arith)
  query_means (o ∷ more) some earlier = (
    λ h. (
      asserted-left v but query h,
      not-true _ (ap as_bool (sym (asserted-value o more earlier) ∙ (asserted-right v but query h).0)),
    ),
    λ h. asserted-both v but query h.0
        (asserted-value o more earlier ∙ ap (λ (b : Bool). bool (not b)) h.1, tt),
  )
    where
      v : ℕ → Value
      v = value_at (run ρ [] (queried (o ∷ more)))

      query : List Call
      query = query_calls (terms but) (o ∷ more)
