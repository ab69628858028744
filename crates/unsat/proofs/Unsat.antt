-- What unsat says: the calls of an accepted list without a current loop and with an obligation have a satisfying
-- assignment exactly when some choice of source trits, alike on joined flip-flops, breaks an obligation. By requirement
-- 3 the arguments of the query's and are true exactly for the obligations that an assignment's sources keep, so the
-- query holds exactly where one is broken; and every choice is shown by some assignment that satisfies all the rest.
use mathlib.Core.Path.{◌≡◌, refl, sym, ap, ◌∙◌, subst}
use mathlib.Core.Bool.{Bool, true, false, not, and-false, true≢false}
use mathlib.Core.Logic.{◌↔◌}
use mathlib.Core.List.{List, [], ◌∷◌, map, Memᴰ}
use Prim.Native.Nat.{ℕ, zero, suc, ◌<◌}
use native.Mathlib.Omega.{arith}
use lib.ListN.{length}
use Rattle.cell.specs.Design.{Design}
use Rattle.cell.specs.Each.{Each}
use Rattle.rules.specs.CellRule.{Trits}
use Rattle.engine.specs.Call.{Call}
use Rattle.engine.specs.Encode.{decode}
use Rattle.engine.specs.Meaning.{as_bool, all, Assignment, Fits, Asserted, Earlier, Sat, run, value_at}
use Rattle.working_out.specs.Reading.{Alike}
use Rattle.working_out.specs.WorkingOut.{whole}
use Rattle.working_out.specs.Obligations.{Obligation, obligations, broken}
use Rattle.working_out.proofs.OrderLaws.{not-false}
use Rattle.smt.specs.Prog.{Age, curr, past}
use Rattle.order.proofs.MeantLaws.{truths}
use Rattle.requirement.specs.Requirement3.{trit_in, trits_in, given_trit, Shows, Requirement3}
use Rattle.requirement.specs.Verified.{call_words}
use Rattle.requirement.proofs.Required.{required}
use Rattle.unsat.specs.Choice.{BreakingChoice, KeepsAll, FirstFalse}
use Rattle.unsat.specs.Unsat.{Questions, Satisfiable, WhatUnsatSays, Example}
use Rattle.unsat.proofs.Query.{query_means}

-- ---- lists of truths

-- A list that is not all true has a first false one.
first-false : (l : List Bool) → all l ≡ false → (place : ℕ) × FirstFalse l place
first-false [] e = absurd (true≢false e)
first-false (true ∷ l) e = let r = first-false l e in (suc r.0, (refl, r.1))
first-false (false ∷ l) e = (0, refl)

module _ (d : Design) (g : Trits) where
  -- What stands at the place of a broken one.
  broken-at : (l : List Obligation) (place : ℕ) → FirstFalse (map (λ o. not (broken d (whole d g) o)) l) place
      → (o : Obligation) × Memᴰ o l × (broken d (whole d g) o ≡ true)
  broken-at [] place e = elim e [ ]
  broken-at (o ∷ l) zero e = (o, Memᴰ.head refl, not-false _ e)
  broken-at (o ∷ l) (suc place) e = let r = broken-at l place e.1 in (r.0, Memᴰ.tail r.1, r.2)

  not-all-kept : (l : List Obligation) (o : Obligation) → Memᴰ o l → broken d (whole d g) o ≡ true
      → all (map (λ o. not (broken d (whole d g) o)) l) ≡ false
  not-all-kept [] o x'' e = elim x'' [ ]
  not-all-kept (p ∷ l) o (Memᴰ.head q) e = rw (← q, e)
  not-all-kept (p ∷ l) o (Memᴰ.tail m) e = rw (not-all-kept l o m e) (and-false (not (broken d (whole d g) p)))

  -- Where none is broken, each is kept.
  each-kept : (l : List Obligation) → ((o : Obligation) → Memᴰ o l → broken d (whole d g) o ≡ true → ⊥)
      → Each (λ o. broken d (whole d g) o ≡ false) l
  each-kept [] none = tt
  each-kept (o ∷ l) none = (is_false_lem _ (none o (Memᴰ.head refl)), each-kept l (λ p m. none p (Memᴰ.tail m)))
    where
      is_false_lem : (b : Bool) → (b ≡ true → ⊥) → b ≡ false
      is_false_lem true n = absurd (n refl)
      is_false_lem false n = refl

  none-broken : (l : List Obligation) → Each (λ o. broken d (whole d g) o ≡ false) l
      → (o : Obligation) → Memᴰ o l → broken d (whole d g) o ≡ true → ⊥
  none-broken [] keeps o x3 e = elim x3 [ ]
  none-broken (p ∷ l) keeps o (Memᴰ.head q) e = true≢false (sym e ∙ ap (broken d (whole d g)) q ∙ keeps.0)
  none-broken (p ∷ l) keeps o (Memᴰ.tail m) e = none-broken l keeps.1 o m e

-- ---- a design whose calls meet requirement 3

module _ (d : Design) (calls : List Call) (r : Requirement3 d calls) (some : 0 < length (obligations d)) where
  abbrev Satisfied : List Call → Assignment → Type 0
  Satisfied cs ρ =
      Asserted (value_at (run ρ [] cs)) cs
      ↔ (Asserted (value_at (run ρ [] cs)) r.but × (all (truths (value_at (run ρ [] cs)) r.asked) ≡ false))

  satisfied : (ρ : Assignment) → Satisfied calls ρ
  satisfied ρ =
      subst (λ (cs : List Call). Earlier 0 cs → Satisfied cs ρ) (sym r.query)
      (query_means ρ r.but r.asked (let each = r.each in omega arith)) r.earlier

  -- An assignment shows the trits of its own sources.
  shows_own : (ρ : Assignment) → Fits ρ calls → Asserted (value_at (run ρ [] calls)) r.but →
      Shows d (trits_in ρ) calls r.but ρ
  shows_own ρ fits sat = record { fits = fits; sources = λ a i source declared. own a i; satisfied = sat }
    where
      own : (a : Age) (i : ℕ) → trit_in ρ a i ≡ given_trit (trits_in ρ) a i
      own curr i = refl
      own past i = refl

  example : (ρ : Assignment) → Sat ρ calls → Example d calls ρ
  unfolding truths
  example ρ sat =
      let s = (satisfied ρ).0 sat.1 in
      let own = shows_own ρ sat.0 s.0 in
      let first = first-false (truths (value_at (run ρ [] calls)) r.asked) s.1 in
      record {
        but = r.but;
        asked = r.asked;
        query = r.query;
        alike = r.joined ρ sat.0 s.0;
        shown = r.shown (trits_in ρ) ρ own;
        place = first.0;
        is_false = first.1;
        is_broken = subst (λ (l : List Bool). FirstFalse l first.0) (r.judged (trits_in ρ) ρ own) first.1;
      }

  breaking : Satisfiable calls → BreakingChoice d
  breaking s =
      let x = example s.0 s.1 in
      let o = broken-at d (trits_in s.0) (obligations d) x.place x.is_broken in
      record { given = trits_in s.0; alike = x.alike; obligation = o.0; among = o.1; breaks = o.2 }

  shown : BreakingChoice d → Satisfiable calls
  unfolding truths
  shown b =
      let x = r.exists b.given b.alike in
      let all-false = ap all (r.judged b.given x.0 x.1)
      ∙ not-all-kept d b.given (obligations d) b.obligation b.among b.breaks in
      (x.0, (x.1.fits, (satisfied x.0).1 (x.1.satisfied, all-false)))

  keeps : (Satisfiable calls → ⊥) ↔ KeepsAll d
  keeps = (
    λ unsat g alike. each-kept d g (obligations d)
        (λ o m e. unsat (shown (record { given = g; alike = alike; obligation = o; among = m; breaks = e }))),
    λ kept s.
        let b = breaking s in
        none-broken d b.given (obligations d) (kept b.given b.alike) b.obligation b.among b.breaks,
  )

-- ---- the claim, of every list of words

module _ (mode : ℕ) (w : List ℕ) (d : Design) (q : Questions mode w d) where
  meets : Requirement3 d (decode (call_words mode w))
  meets = required mode w d q.replacements q.pairs q.is q.no_loop

  -- Unsat: no assignment satisfies the calls exactly when every choice of the sources keeps every obligation.
  pub unsat_keeps : (Satisfiable (decode (call_words mode w)) → ⊥) ↔ KeepsAll d
  unsat_keeps = keeps d _ meets q.some

  -- Sat: the sources of every example break an obligation, the one of the first false argument of the query's and.
  pub example_breaks : (ρ : Assignment) → Sat ρ (decode (call_words mode w)) → Example d (decode (call_words mode w)) ρ
  example_breaks = example d _ meets q.some

pub what_unsat-says : (mode : ℕ) (w : List ℕ) → WhatUnsatSays mode w
what_unsat-says mode w d q =
    (breaking d _ (meets mode w d q) q.some, shown d _ (meets mode w d q) q.some)
