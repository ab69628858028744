-- For given trits, alike on joined flip-flops, an assignment that shows them and satisfies every assertion but the
-- query; and the calls but the query are well sorted.
use mathlib.Core.Path.{◌≡◌, refl, sym, ap, subst, fun_ext}
use mathlib.Core.Bool.{false}
use mathlib.Core.List.{List, [], ◌∷◌, ◌++◌, append-nil}
use Prim.Native.Nat.{ℕ, zero, suc, ◌*◌, ◌<◌}
use native.Mathlib.Omega.{arith}
use lib.ListN.{get_or, replicate}
use Rattle.cell.specs.Design.{Design, total}
use Rattle.cell.specs.Each.{Each}
use Rattle.right.specs.Bounds.{Bounds}
use Rattle.right.specs.Laid.{Laid}
use Rattle.rules.specs.CellRule.{Trits}
use Rattle.engine.specs.Call.{Call}
use Rattle.engine.specs.Meaning.{Value, bool, Assignment, value_at, Fits, Earlier, Sat, All, terms}
use Rattle.engine.proofs.Laws.{All-map, holds_sat}
use Rattle.working_out.specs.Reading.{Alike}
use Rattle.working_out.specs.Loop.{has_loop}
use Rattle.smt.specs.Prog.{Age, curr, past}
use Rattle.smt.specs.Emit.{place}
use Rattle.smt.specs.Formula.{NetBits, net_bits}
use Rattle.soundness.proofs.Safe.{Truth}
use Rattle.soundness.proofs.Solve.{extends_refl, Temp, no_temp, Ran, assigned, assigned-net, WellSorted, sorted_earlier}
use Rattle.soundness.proofs.Solve.{Here, v, ρ, σ}
use Rattle.order.specs.Verify.{start, work}
use Rattle.order.proofs.Numbered.{work-next}
use Rattle.order.proofs.MeantLaws.{steps_of, SaidOf}
use Rattle.order.specs.Meant.{meant_steps}
use Rattle.order.proofs.StepsMean.{steps_mean}
use Rattle.requirement.proofs.WorkMeets.{exec_work, WorkMet, work_meets}
use Rattle.requirement.proofs.StepsSafe.{steps_safe}
use Rattle.requirement.proofs.Solved.{solved, solved_now, solved_was, solved_said}
use Rattle.requirement.proofs.Prefix.{asserted_on, fits_append}
use Rattle.requirement.specs.Requirement3.{Shows, trit_in, given_trit, IsSource, query_calls}

-- The bits that an assignment of nets' bits gives the nets.
pub net-bits : (b : NetBits) (ts : List Temp) → net_bits (assigned b ts) ≡ b
net-bits b ts = fun_ext λ a. fun_ext λ i. fun_ext λ h. ap (λ (s : _). get_or s 0 false) (assigned-net b ts a i h)

-- Nothing is declared at the start.
pub zeros-none : (n p k : ℕ) → get_or (replicate n 0) p 0 ≡ suc k → ⊥
zeros-none zero p k e = omega arith
zeros-none (suc n) zero k e = omega arith
zeros-none (suc n) (suc p) k e = zeros-none n p k e

-- The query declares nothing.
pub query-fits : (ρ : Assignment) (n : ℕ) (l : List ℕ) → Fits ρ (query_calls n l)
query-fits ρ n [] = tt
query-fits ρ n (o ∷ l) = tt

-- The calls but the query.
unfoldable pub but : Design → List Call
but d = (work (steps_of (meant_steps d)) (start (total d))).calls

-- The terms of the obligations, the arguments of the query's and.
unfoldable pub asked : Design → List ℕ
asked d = (work (steps_of (meant_steps d)) (start (total d))).res

module _ (d : Design) (laid : Laid d) (bounds : Bounds d) where
  -- The values and the temporaries of the whole run, of the nets' bits.
  abbrev pub whole : NetBits → Ran
  whole b = exec_work b (steps_of (meant_steps d)) (start (total d)) [] []

  pub here : (b : NetBits) (L : List Value) (TS : List Temp) → Here (total d) b L TS (start (total d)) [] []
  here b L TS =
      record { terms = refl; temps = refl; names = λ a i h k e. absurd (zeros-none (4 * total d) (place a i h) k e) }

  abbrev pub L : NetBits → List Value
  L b = (whole b).values

  abbrev pub TS : NetBits → List Temp
  TS b = (whole b).temps

  pub met : (b : NetBits) → WorkMet (total d) b (L b) (TS b) (meant_steps d) (start (total d)) (whole b)
  met b =
      work_meets (total d) b (L b) (TS b) (meant_steps d) (start (total d)) [] [] (steps_safe d laid bounds)
      (here b (L b) (TS b)) (extends_refl (bool false) (L b)) (extends_refl no_temp (TS b))

  -- They refer to earlier terms only, of the sorts that SMT-LIB asks, whatever the bits.
  pub but_sorted : (b : NetBits) → WellSorted (σ (total d) b (L b) (TS b)) 0 (but d)
  unfolding but
  but_sorted b = rw append-nil at ((met b).sorted [] tt)

  pub but-earlier : Earlier 0 (but d)
  but-earlier = sorted_earlier _ 0 (but d) (but_sorted (λ a i h. false))

  -- The obligations' terms are among them.
  pub asked-earlier : All (λ k. k < terms (but d)) (asked d)
  unfolding but asked
  asked-earlier =
      All-map (Truth (work (steps_of (meant_steps d)) (start (total d))).st.next
      (σ (total d) none (L none) (TS none)))
      (λ k. k < terms (work (steps_of (meant_steps d)) (start (total d))).calls)
      (λ k t. let l = t.0 in let n = work-next (steps_of (meant_steps d)) (start (total d)) in omega arith)
      (work (steps_of (meant_steps d)) (start (total d))).res (met none).obligations
    where
      none : NetBits
      none a i h = false

  -- Bits that pass the asserted tests satisfy the assertions but the query.
  pub tests_sat : (b : NetBits) → Each (SaidOf b) (meant_steps d) → Sat (assigned b (TS b)) (but d)
  unfolding but
  tests_sat b said =
      holds_sat (assigned b (TS b)) (value_at (L b)) (but d) but-earlier
      (rw append-nil at ((met b).holds (steps_mean d laid (ρ (total d) b (L b) (TS b)) (v (total d) b (L b) (TS b)))
      (subst (λ (x : NetBits). Each (SaidOf x) (meant_steps d)) (sym (net-bits b (TS b))) said) [] tt))

  -- Whatever the query asks: the solved bits.
  pub exists : has_loop d ≡ false → (n : ℕ) (l : List ℕ) (g : Trits) → Alike d g → (ρ : Assignment)
      × Shows d g ((but d) ++ query_calls n l) (but d) ρ
  exists no_loop n l g alike = (
    ρ*,
    record {
      fits = fits_append ρ* (but d) (query_calls n l) sat.0 (query-fits ρ* n l);
      sources = λ a i s _. shown a i s;
      satisfied = asserted_on ρ* (but d) (query_calls n l) but-earlier sat.1;
    },
  )
    where
      b : NetBits
      b = solved d laid no_loop g

      ρ* : Assignment
      ρ* = assigned b (TS b)

      sat : Sat ρ* (but d)
      sat = tests_sat b (solved_said d laid no_loop g alike)

      shown : (a : Age) (i : ℕ) → IsSource d a i → trit_in ρ* a i ≡ given_trit g a i
      shown curr i s = solved_now d laid no_loop g i s
      shown past i s = solved_was d laid no_loop g i
