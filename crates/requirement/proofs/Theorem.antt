-- Requirement 3 holds of every accepted design without a current loop.
use mathlib.Core.Path.{◌≡◌, refl, sym, ap, ap₂, ◌∙◌, subst, fun_ext}
use mathlib.Core.Bool.{Bool, true, false, not}
use mathlib.Core.Logic.{⊎_elim}
use mathlib.Core.List.Memᴰ
use mathlib.Core.List.{List, [], ◌∷◌, ◌++◌, map, append-nil}
use Prim.Native.Nat.{ℕ, zero, suc, ◌+◌, ◌*◌, ◌<◌}
use native.Mathlib.Omega.{arith}
use lib.ListN.{length, length-map, get_or}
use Rattle.logic.specs.Trit.{shows}
use Rattle.logic.specs.declared.Trit.{Trit}
use Rattle.logic.specs.Table.{zip_with}
use Rattle.logic.specs.Net.{Net}
use Rattle.cell.specs.Design.{Design, NetPair, total}
use Rattle.cell.specs.Each.{Each}
use Rattle.right.specs.Bounds.{Bounds}
use Rattle.right.specs.Laid.{Laid, Ascending}
use Rattle.rules.specs.CellRule.{Trits, of_net}
use Rattle.rules.specs.Refine.{Refines}
use Rattle.engine.specs.Call.{Name, Call}
use Rattle.engine.specs.Call as c
use Rattle.engine.specs.Meaning.{Value, as_bool, Assignment, value_at, run, Fits, Asserted, Earlier, Sat, terms, All}
use Rattle.engine.proofs.Laws.{All-map, sat_holds}
use Rattle.working_out.specs.Reading.{reads_past, source, of_dffs, pair_of, Joined, Alike}
use Rattle.working_out.specs.Loop.{Loop, has_loop}
use Rattle.working_out.proofs.Solutions.{loop_decided}
use Rattle.working_out.specs.Equations.{Solution}
use Rattle.working_out.specs.WorkingOut.{trit_rule, worked_out, whole, Solves}
use Rattle.working_out.proofs.WorkedOut as worked
use Rattle.working_out.specs.Obligations.{Obligation, obligations, broken}
use Rattle.smt.specs.Prog.{Prog, ret, op, declare, bind, bind2, ◌>>=◌, Age, curr, past, Half, is_undef, is_one}
use Rattle.smt.specs.Emit.{St, Out, emit, place, net_name, learn, reread, after, known}
use Rattle.smt.specs.Formula.{TritBits, NetBits, net_bits}
use Rattle.smt.proofs.Shows.{shown-is}
use Rattle.smt.specs.CellBits.{past_bits}
use Rattle.smt.proofs.Refines.{same_bits_lem}
use Rattle.smt.specs.Wp.{Known}
use Rattle.smt.specs.CellShows.{trits_of}
use Rattle.smt.proofs.CellShowsLaws.{read-shows}
use Rattle.order.specs.Verify as verify
use Rattle.order.specs.Verify.{Step, declared, asserted, obliged, start, steps, work, built}
use Rattle.order.specs.Meant.{Meant, meant_cells, meant_pair, meant_pairs, meant_steps, join_test}
use Rattle.order.proofs.MeantLaws.{steps_of, SaidOf, ask, asks, truths, Worked}
use Rattle.order.proofs.StepsMean.{steps_are, steps_mean}
use Rattle.order.proofs.WorkSound.{work_sound}
use Rattle.order.proofs.Shown.{left, right, tests_solve}
use Rattle.order.proofs.Judged.{steps-judged}
use Rattle.order.proofs.Numbered.{work-next}
use Rattle.order.proofs.Ascending.{obligations-ascend}
use Rattle.requirement.proofs.Declares.{declared-left, declared_cases, built-together, nodes_declared}
use Rattle.requirement.proofs.Prefix.{value_on, asserted_back, fits-left, run_agrees, fits_agrees}
use Rattle.requirement.proofs.Filled.{filled, filled_agrees, filled_shows}
use Rattle.requirement.proofs.Exists.{zeros-none, but, but-earlier, asked, asked-earlier, exists}
use Rattle.requirement.specs.Requirement3.{declared_names, IsDeclared, Declared, trit_in, trits_in, unchecked, Shows}
use Rattle.requirement.specs.Requirement3.{query_calls, Turned, Requirement3}

-- Two functions that agree on a list's elements.
map_same : {A : Type 0} (f h : ℕ → A) (l : List ℕ) → All (λ k. f k ≡ h k) l → map f l ≡ map h l
map_same f h [] e = refl
map_same f h (k ∷ l) e = ap₂ (λ (x : _) (r : List _). x ∷ r) e.0 (map_same f h l e.1)

-- The query declares nothing.
pub query-none : (n : ℕ) (l : List ℕ) (name : Name) → IsDeclared (query_calls n l) name → ⊥
unfolding declared_names
query-none n [] name m = Memᴰ.not-nil m
query-none n (o ∷ l) name m = Memᴰ.not-nil m

module _ (d : Design) (laid : Laid d) (bounds : Bounds d) (n : ℕ) (asked-terms : List ℕ) where
  abbrev calls : List Call
  calls = but d ++ query_calls n asked-terms

  no_names : (ρ : Assignment) (v : ℕ → Value) → Known ρ v (start (total d)).names
  no_names ρ v a i h k e = absurd (zeros-none (4 * total d) (place a i h) k e)

  -- A net's two names are declared together or not at all.
  pub together : (a : Age) (i : ℕ) (h : Half) → IsDeclared calls (net_name a i h) → Declared calls a i
  unfolding but
  together a i h m g =
      declared-left (but d) (query_calls n asked-terms) (net_name a i g)
      (subst (λ (l : List Step). Declared (work l (start (total d))).calls a i) (sym (steps_are d))
      (built-together d a i h first) g)
    where
      first : IsDeclared (built d).calls (net_name a i h)
      first =
          subst (λ (l : List Step). IsDeclared (work l (start (total d))).calls (net_name a i h)) (steps_are d)
          (⊎_elim (λ q. q) (λ q. absurd (query-none n asked-terms (net_name a i h) q))
          (declared_cases (but d) _ (net_name a i h) m))

  -- What an assignment that satisfies the assertions but the query says.
  worked_by : (ρ : Assignment) → Fits ρ calls → Asserted (value_at (run ρ [] calls)) (but d)
      → Worked ρ (value_at (run ρ [] (but d))) (meant_steps d) (start (total d)) []
  unfolding but
  worked_by ρ fits sat =
      let w = but-earlier d laid bounds in
      let s : Sat ρ (but d) = (fits-left ρ (but d) _ fits, asserted_back ρ (but d) _ w sat) in
      work_sound ρ _ (meant_steps d) (start (total d)) [] (steps_mean d laid ρ _) (no_names ρ _)
      (rw append-nil (sat_holds ρ (but d) w s))

  module _ (no_loop : has_loop d ≡ false) (g : Trits) (ρ : Assignment) (shown_by : Shows d g calls (but d) ρ) where
    -- The assignment filled up shows the given trits on every source, and satisfies the same.
    ρ* : Assignment
    ρ* = filled g calls ρ

    same-run : run ρ [] calls ≡ run (filled g calls ρ) [] calls
    same-run = run_agrees ρ (filled g calls ρ) [] calls (filled_agrees g calls ρ)

    done : Worked (filled g calls ρ) (value_at (run (filled g calls ρ) [] (but d))) (meant_steps d) (start (total d)) []
    done =
        worked_by (filled g calls ρ) (fits_agrees ρ (filled g calls ρ) calls (filled_agrees g calls ρ) shown_by.fits)
        (subst (λ (r : List Value). Asserted (value_at r) (but d)) same-run shown_by.satisfied)

    θ : Trits
    θ = trits_of (net_bits (filled g calls ρ))

    was-given : (i : ℕ) → (trits_of (net_bits (filled g calls ρ))).was i ≡ g.was i
    was-given i = filled_shows d g calls ρ together shown_by.sources past i tt

    now-given : (i : ℕ) → source d i ≡ true → (trits_of (net_bits (filled g calls ρ))).now i ≡ g.now i
    now-given i e = filled_shows d g calls ρ together shown_by.sources curr i e

    solves : Solves d g (trits_of (net_bits (filled g calls ρ))).now
    solves =
        let s = tests_solve d (net_bits (filled g calls ρ)) laid.cells done.said in
        subst (λ (was : ℕ → Trit). Solution (trit_rule d was) d g.now (trits_of (net_bits (filled g calls ρ))).now)
        (fun_ext was-given)
        (record { sources = now-given; cells = s.cells; voids = s.voids })

    now_worked : (i : ℕ) → (trits_of (net_bits (filled g calls ρ))).now i ≡ worked_out d g i
    now_worked = worked.only d laid no_loop g (trits_of (net_bits (filled g calls ρ))).now solves

    -- On declared nets it is the assignment itself.
    declared_same : (a : Age) (i : ℕ) → Declared calls a i → trit_in ρ a i ≡ trit_in (filled g calls ρ) a i
    declared_same a i m =
        ap₂ (λ (x y : _). shows (get_or x 0 false) (get_or y 0 false)) (filled_agrees g calls ρ _ (m is_undef))
        (filled_agrees g calls ρ _ (m is_one))

    pub shown : (i : ℕ) → Declared calls curr i → trit_in ρ curr i ≡ worked_out d g i
    shown i m = declared_same curr i m ∙ now_worked i

    pub shown-past : (i : ℕ) → Declared calls past i → trit_in ρ past i ≡ g.was i
    shown-past i m = declared_same past i m ∙ was-given i

    all-trits : trits_of (net_bits (filled g calls ρ)) ≡ whole d g
    all-trits = λ t. record { now = fun_ext now_worked t; was = fun_ext was-given t }

    -- The value of an obligation's term is the same in the calls but the query.
    value_same : (k : ℕ) → k < terms (but d)
        → value_at (run ρ [] calls) k ≡ value_at (run (filled g calls ρ) [] (but d)) k
    value_same k l = ap (λ (r : List Value). value_at r k) same-run
        ∙ value_on (filled g calls ρ) (but d) (query_calls n asked-terms) k l

    pub judged : map (λ k. as_bool (value_at (run ρ [] calls) k)) (asked d)
        ≡ map (λ o. not (broken d (whole d g) o)) (obligations d)
    unfolding asked truths
    judged =
        map_same _ _ (asked d) (All-map _ _ (λ k l. ap as_bool (value_same k l)) (asked d) (asked-earlier d laid bounds))
        ∙ done.judged ∙ steps-judged d (net_bits (filled g calls ρ)) laid
        ∙ ap (λ (θ : Trits). map (λ (o : Obligation). not (broken d θ o)) (obligations d)) all-trits

  module _ (no_loop : has_loop d ≡ false) where
    pub monotone : (g g' : Trits) → Turned d g g' → (ρ ρ' : Assignment) → Shows d g calls (but d) ρ →
        Shows d g' calls (but d) ρ'
        → (a : Age) (i : ℕ) → Declared calls a i → Refines (trit_in ρ a i) (trit_in ρ' a i)
    monotone g g' t ρ ρ' s s' curr i m =
        rw (shown no_loop g ρ s i m, shown no_loop g' ρ' s' i m)
        (worked.monotone d laid no_loop g g' t.now t.was i)
    monotone g g' t ρ ρ' s s' past i m = rw (shown-past no_loop g ρ s i m, shown-past no_loop g' ρ' s' i m) (t.was i)

    pub choiceless : (g : Trits) (ρ ρ' : Assignment) → Shows d g calls (but d) ρ → Shows d g calls (but d) ρ'
        → (a : Age) (i : ℕ) → Declared calls a i → trit_in ρ a i ≡ trit_in ρ' a i
    choiceless g ρ ρ' s s' curr i m = shown no_loop g ρ s i m ∙ sym (shown no_loop g ρ' s' i m)
    choiceless g ρ ρ' s s' past i m = shown-past no_loop g ρ s i m ∙ sym (shown-past no_loop g ρ' s' i m)

  -- ---- joined flip-flops

  past-trit : (ρ : Assignment) (x : Net) →
      zip_with shows (past_bits (reads_past d) (net_bits ρ) (x ∷ [])).x
      (past_bits (reads_past d) (net_bits ρ) (x ∷ [])).y
      ≡ of_net (trit_in ρ past) x ∷ []
  past-trit ρ x = shown-is (read-shows (net_bits ρ) (λ i. past) (trit_in ρ past) (λ i. refl) (x ∷ []))

  join_alike : (ρ : Assignment) (from to : Net) → join_test (reads_past d) from to (net_bits ρ) ≡ true →
      of_net (trit_in ρ past) from ≡ of_net (trit_in ρ past) to
  join_alike ρ from to e =
      first (sym (past-trit ρ from) ∙ ap (λ (t : TritBits). zip_with shows t.x t.y) (same_bits_lem _ _ e)
      ∙ past-trit ρ to)
    where
      first : {t u : Trit} → t ∷ [] ≡ u ∷ [] → t ≡ u
      first {t} {u} q = cc

  pairs-alike : (ρ : Assignment) (pairs : List NetPair) → Each (SaidOf (net_bits ρ)) (meant_pairs d pairs)
      → Each (λ (p : NetPair). Joined d p → of_net (trit_in ρ past) p.from ≡ of_net (trit_in ρ past) p.to) pairs
  unfolding meant_pairs
  pairs-alike ρ [] said = tt
  pairs-alike ρ (p ∷ pairs) said = (
    λ j. join_alike ρ p.from p.to
        (of_join j (left d (net_bits ρ) (meant_pair (reads_past d) d.mode (pair_of d p) p) _ said)),
    pairs-alike ρ pairs (right d (net_bits ρ) (meant_pair (reads_past d) d.mode (pair_of d p) p) _ said),
  )
    where
      of_join : pair_of d p ≡ of_dffs → Each (SaidOf (net_bits ρ)) (meant_pair (reads_past d) d.mode (pair_of d p) p) →
          join_test (reads_past d) p.from p.to (net_bits ρ) ≡ true
      of_join e s =
          let dffs : Each (SaidOf (net_bits ρ)) (meant_pair (reads_past d) d.mode of_dffs p) = rw e at s in
          dffs.0

  pub joined : (ρ : Assignment) → Fits ρ calls → Asserted (value_at (run ρ [] calls)) (but d) → Alike d (trits_in ρ)
  joined ρ fits sat =
      pairs-alike ρ d.net_reps (right d (net_bits ρ) (meant_cells d d.cells) _ (worked_by ρ fits sat).said)

-- ---- the shape of the calls

emit-unchecked : {A : Type 0} (m : Prog A) (s : St) (rest : List Call) → unchecked rest ≡ true →
    unchecked ((emit m s).calls ++ rest) ≡ true
unfolding emit unchecked
emit-unchecked (ret a) s rest h = h
emit-unchecked (op t f) s rest h = emit-unchecked (f s.next) _ rest h
emit-unchecked {A} (declare a i y f) s rest h =
    go (λ k s. emit-unchecked (f k) s rest h) (get_or s.names (place a i y) 0)
  where
    go : ((k : ℕ) (s : St) → unchecked ((emit (f k) s).calls ++ rest) ≡ true) → (o : ℕ)
        → unchecked
        ((known {X = Out A} o (after (c.declare (net_name a i y) 1 ∷ []) (emit (f s.next) (learn a i y s)))
        (λ k. emit (f k) (reread a i s))).calls ++ rest) ≡ true
    go rec zero = rec s.next (learn a i y s)
    go rec (suc k) = rec k (reread a i s)
emit-unchecked (bind w t f) s rest h = emit-unchecked (f s.next) _ rest h
emit-unchecked (bind2 w x y f) s rest h = emit-unchecked (f s.next (suc s.next)) _ rest h

work-unchecked : (steps : List Step) (s : St) → unchecked (work steps s).calls ≡ true
unfolding work
work-unchecked [] s = unfold unchecked in refl
work-unchecked (declared m ∷ rest) s = emit-unchecked m s _ (work-unchecked rest (emit m s).st)
work-unchecked (asserted m ∷ rest) s = emit-unchecked m s _ (pass (work-unchecked rest (emit m s).st))
  where
    pass : unchecked (work rest (emit m s).st).calls ≡ true →
        unchecked (c.assert (emit m s).res ∷ (work rest (emit m s).st).calls) ≡ true
    pass h = unfold unchecked in h
work-unchecked (obliged m ∷ rest) s = emit-unchecked m s _ (work-unchecked rest (emit m s).st)

-- The calls of the query are those that `check` emits.
pub query-calls : (l : List ℕ) (s : St) → verify.asked_calls l s ≡ query_calls s.next l
unfolding verify.asked_calls verify.query emit ◌>>=◌
query-calls [] s = refl
query-calls (o ∷ l) s = refl

pub verify-is : (d : Design) → verify.verify d ≡ but d ++ query_calls (terms (but d)) (asked d)
unfolding verify.verify but asked
verify-is d =
    subst (λ (l : List Step). verify.verify d
    ≡ (work l s₀).calls ++ query_calls (terms (work l s₀).calls) (work l s₀).res) (sym (steps_are d))
    (ap (λ (l : List Call). (work (steps d) s₀).calls ++ l)
    (query-calls (work (steps d) s₀).res (work (steps d) s₀).st
    ∙ ap (λ (n : ℕ). query_calls n (work (steps d) s₀).res) (let e = work-next (steps d) s₀ in omega arith)))
  where
    s₀ : St
    s₀ = start (total d)

but-unchecked : (d : Design) → unchecked (but d) ≡ true
unfolding but
but-unchecked d = work-unchecked (steps_of (meant_steps d)) (start (total d))

-- An obligation's term for each obliged step.
terms-each : (b : NetBits) (ms : List Meant) (s : St) → length (work (steps_of ms) s).res ≡ length (asks b ms)
unfolding work asks
terms-each b [] s = refl
terms-each b (m ∷ ms) s = go (λ s. terms-each b ms s) m.step (m.test b)
  where
    go : ((s : St) → length (work (steps_of ms) s).res ≡ length (asks b ms)) → (p : Step) (t : Bool)
        → length (work (p ∷ steps_of ms) s).res ≡ length (ask p t (asks b ms))
    go rec (declared q) t = rec (emit q s).st
    go rec (asserted q) t = rec (emit q s).st
    go rec (obliged q) t = ap suc (rec (emit q s).st)

-- The query's and has an argument for each obligation.
pub asked-each : (d : Design) → Laid d → length (asked d) ≡ length (obligations d)
unfolding asked
asked-each d laid =
    terms-each none (meant_steps d) (start (total d)) ∙ ap length (steps-judged d none laid)
    ∙ length-map (obligations d) _
  where
    none : NetBits
    none a i h = false

-- They ascend strictly.
asked-ascend : (d : Design) → Ascending (λ (k : ℕ). k) (asked d)
unfolding asked
asked-ascend d =
    subst (λ (l : List Step). Ascending (λ (k : ℕ). k) (work l (start (total d))).res) (sym (steps_are d))
    (obligations-ascend d)

-- Every call refers to earlier terms only, the query's too.
earlier_append : (n k : ℕ) (cs ds : List Call) → k ≡ n + terms cs → Earlier n cs → Earlier k ds → Earlier n (cs ++ ds)
unfolding terms
earlier_append n k [] ds q e f = subst (λ (j : ℕ). Earlier j ds) (omega arith) f
earlier_append n k (c.term t ∷ cs) ds q e f = (e.0, earlier_append (suc n) k cs ds (omega arith) e.1 f)
earlier_append n k (c.declare name w ∷ cs) ds q e f = earlier_append (suc n) k cs ds (omega arith) e f
earlier_append n k (c.assert a ∷ cs) ds q e f = (e.0, earlier_append n k cs ds q e.1 f)
earlier_append n k (c.check ∷ cs) ds q e f = earlier_append n k cs ds q e f

query-earlier : (n : ℕ) (l : List ℕ) → All (λ k. k < n) l → Earlier n (query_calls n l)
query-earlier n [] h = tt
query-earlier n (o ∷ l) h = (h, ((omega arith, tt), (omega arith, tt)))

-- ---- the theorem, of a design

no_loop_found : (d : Design) → Laid d → (Loop d → ⊥) → has_loop d ≡ false
no_loop_found d laid none = go (has_loop d) refl
  where
    go : (b : Bool) → has_loop d ≡ b → has_loop d ≡ false
    go true e = absurd (none ((loop_decided d laid).0 e))
    go false e = e

module _ (d : Design) (laid : Laid d) (bounds : Bounds d) (none : Loop d → ⊥) where
  no_loop : has_loop d ≡ false
  no_loop = no_loop_found d laid none

  nodes : (i : ℕ) → i < total d → source d i ≡ false → Declared (but d ++ query_calls (terms (but d)) (asked d)) curr i
  unfolding but
  nodes i low node h =
      declared-left (but d) (query_calls (terms (but d)) (asked d)) (net_name curr i h)
      (subst (λ (l : List Step). Declared (work l (start (total d))).calls curr i) (sym (steps_are d))
      (nodes_declared d laid i low node) h)

  pub requirement_3 : Requirement3 d (verify.verify d)
  requirement_3 = subst (Requirement3 d) (sym (verify-is d)) (record {
    but = but d;
    asked = asked d;
    query = refl;
    claims = but-unchecked d;
    each = asked-each d laid;
    ascend = asked-ascend d;
    earlier = earlier_append 0 (terms (but d)) (but d) _ (omega arith) (but-earlier d laid bounds)
        (query-earlier (terms (but d)) (asked d) (asked-earlier d laid bounds));
    together = together d laid bounds (terms (but d)) (asked d);
    exists = exists d laid bounds no_loop (terms (but d)) (asked d);
    shown = λ g ρ s. shown d laid bounds (terms (but d)) (asked d) no_loop g ρ s;
    judged = λ g ρ s. judged d laid bounds (terms (but d)) (asked d) no_loop g ρ s;
    declared = nodes;
    monotone = monotone d laid bounds (terms (but d)) (asked d) no_loop;
    joined = joined d laid bounds (terms (but d)) (asked d);
    choiceless = choiceless d laid bounds (terms (but d)) (asked d) no_loop;
  })
