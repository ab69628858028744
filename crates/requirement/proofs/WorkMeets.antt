-- The other way: bits of the nets that pass the asserted tests extend, by the values of the temporaries, to an
-- assignment and a valuation that meet the calls of the steps; and these calls are well sorted.
use mathlib.Core.Path.{ap, ◌∙◌}
use mathlib.Core.Bool.{Bool, false}
use mathlib.Core.List.{List, [], ◌∷◌, ◌++◌, append_assoc}
use Prim.Native.Nat.{ℕ, ◌≤◌}
use native.Mathlib.Omega.{arith}
use Rattle.cell.specs.Each.{Each}
use Rattle.engine.specs.Call.{Call}
use Rattle.engine.specs.Meaning.{Value, bool, Assignment, Holds, All}
use Rattle.engine.specs.Sorts.{Sort}
use Rattle.smt.specs.Prog.{Prog}
use Rattle.smt.specs.Emit.{St, emit}
use Rattle.smt.specs.Formula.{NetBits, net_bits}
use Rattle.smt.proofs.WpLaws.{wp_sound}
use Rattle.soundness.proofs.Safe.{safe, Truth}
use Rattle.soundness.proofs.Solve.{Extends, extends_trans, extends_refl, Temp, no_temp, Ran, exec, Grows, grows}
use Rattle.soundness.proofs.Solve.{WellSorted, Here, Met, here-known, meets, v, ρ, σ}
use Rattle.order.specs.Verify.{Step, declared, asserted, obliged, work}
use Rattle.order.specs.Meant.{Meant, meant, MeantIs}
use Rattle.order.proofs.MeantLaws.{steps_of, SaidOf}

-- A step's calls fit: its term, where it is asserted or kept, is a Bool.
abbrev pub StepSafe : ℕ → (ℕ → Sort) → ℕ → Step → Type 0
StepSafe slots σ n (declared m) = safe slots σ n m (λ _ _. Unit {0})
StepSafe slots σ n (asserted m) = safe slots σ n m (λ k r. Truth k σ r)
StepSafe slots σ n (obliged m) = safe slots σ n m (λ k r. Truth k σ r)

pub record Safe (slots : ℕ) (m : Meant) : Type 0 where
  pub fits : (σ : ℕ → Sort) (n : ℕ) → StepSafe slots σ n m.step

module _ (b : NetBits) where
  -- The values and the temporaries after the steps.
  unfoldable pub exec_work : List Step → St → List Value → List Temp → Ran
  exec_work [] s l ts = record { values = l; temps = ts }
  exec_work (declared m ∷ rest) s l ts =
      exec_work rest (emit m s).st (exec b m s l ts).values (exec b m s l ts).temps
  exec_work (asserted m ∷ rest) s l ts =
      exec_work rest (emit m s).st (exec b m s l ts).values (exec b m s l ts).temps
  exec_work (obliged m ∷ rest) s l ts =
      exec_work rest (emit m s).st (exec b m s l ts).values (exec b m s l ts).temps

  grows_trans : (l : List Value) (ts : List Temp) (r q : Ran) → Grows b l ts r → Grows b r.values r.temps q →
      Grows b l ts q
  grows_trans l ts r q g h = record {
    values = extends_trans (bool false) l r.values q.values g.values h.values;
    temps = extends_trans no_temp ts r.temps q.temps g.temps h.temps;
  }

  pub grows_work : (steps : List Step) (s : St) (l : List Value) (ts : List Temp) → Grows b l ts (exec_work steps s l ts)
  unfolding exec_work
  grows_work [] s l ts = record { values = extends_refl (bool false) l; temps = extends_refl no_temp ts }
  grows_work (declared m ∷ rest) s l ts =
      grows_trans l ts (exec b m s l ts) _ (grows b m s l ts)
      (grows_work rest (emit m s).st (exec b m s l ts).values (exec b m s l ts).temps)
  grows_work (asserted m ∷ rest) s l ts =
      grows_trans l ts (exec b m s l ts) _ (grows b m s l ts)
      (grows_work rest (emit m s).st (exec b m s l ts).values (exec b m s l ts).temps)
  grows_work (obliged m ∷ rest) s l ts =
      grows_trans l ts (exec b m s l ts) _ (grows b m s l ts)
      (grows_work rest (emit m s).st (exec b m s l ts).values (exec b m s l ts).temps)

-- Over the values and the temporaries of the whole list.
module _ (slots : ℕ) (b : NetBits) (L : List Value) (TS : List Temp) where
  abbrev val : ℕ → Value
  val = v slots b L TS

  abbrev asg : Assignment
  asg = ρ slots b L TS

  abbrev srt : ℕ → Sort
  srt = σ slots b L TS

  pub record WorkMet (ms : List Meant) (s : St) (r : Ran) : Type 0 where
    pub holds : Each (MeantIs asg val) ms → Each (SaidOf (net_bits asg)) ms → (rest : List Call) →
        Holds asg val (work (steps_of ms) s).st.next rest →
        Holds asg val s.next ((work (steps_of ms) s).calls ++ rest)
    pub sorted : (rest : List Call) → WellSorted srt (work (steps_of ms) s).st.next rest →
        WellSorted srt s.next ((work (steps_of ms) s).calls ++ rest)
    pub obligations : All (Truth (work (steps_of ms) s).st.next srt) (work (steps_of ms) s).res
    pub up : s.next ≤ (work (steps_of ms) s).st.next
    pub here : Here slots b L TS (work (steps_of ms) s).st r.values r.temps

  -- How many terms there are only grows.
  up_by : {A : Type 0} (m : Prog A) (s : St) (l : List Value) (ts : List Temp) (Q : ℕ → A → Type 0) →
      Here slots b L TS s l ts
      → Met slots b L TS s.next (emit m s).calls (emit m s).st (emit m s).res (exec b m s l ts) Q →
      s.next ≤ (emit m s).st.next
  up_by m s l ts Q h met =
      let p = h.terms in
      let q = met.here.terms in
      let r = (grows b m s l ts).values.le in
      omega arith

  later_truth : {n m k : ℕ} → n ≤ m → Truth n srt k → Truth m srt k
  later_truth {n} {m} {k} l h = (let a = h.0 in omega arith, h.1)

  -- A step's calls are met, where what is run after it goes on to the whole.
  pub met_by : {A : Type 0} (q : Prog A) (s : St) (l : List Value) (ts : List Temp) (rest : List Step)
      (Q : ℕ → A → Type 0) → Here slots b L TS s l ts
      → Extends (bool false)
      (exec_work b rest (emit q s).st (exec b q s l ts).values (exec b q s l ts).temps).values L
      → Extends no_temp
      (exec_work b rest (emit q s).st (exec b q s l ts).values (exec b q s l ts).temps).temps TS
      → safe slots srt s.next q Q
      → Met slots b L TS s.next (emit q s).calls (emit q s).st (emit q s).res (exec b q s l ts) Q
  met_by q s l ts rest Q h x y fits =
      let r = exec b q s l ts in
      let g = grows_work b rest (emit q s).st r.values r.temps in
      meets slots b L TS q s l ts Q h (extends_trans (bool false) r.values _ L g.values x)
      (extends_trans no_temp r.temps _ TS g.temps y) fits

  pub work_meets : (ms : List Meant) (s : St) (l : List Value) (ts : List Temp) → Each (Safe slots) ms →
      Here slots b L TS s l ts
      → Extends (bool false) (exec_work b (steps_of ms) s l ts).values L →
      Extends no_temp (exec_work b (steps_of ms) s l ts).temps TS
      → WorkMet ms s (exec_work b (steps_of ms) s l ts)
  unfolding work exec_work
  work_meets [] s l ts fits h x y =
      record { holds = λ is said rest q. q; sorted = λ rest q. q; obligations = tt; up = omega arith; here = h }
  work_meets (m ∷ ms) s l ts fits h x y =
      go (λ s' l' ts'. work_meets ms s' l' ts' fits.1) m.step m.test (fits.0.fits srt s.next) x y
    where
      go : ((s' : St) (l' : List Value) (ts' : List Temp) → Here slots b L TS s' l' ts'
          → Extends (bool false) (exec_work b (steps_of ms) s' l' ts').values L →
          Extends no_temp (exec_work b (steps_of ms) s' l' ts').temps TS
          → WorkMet ms s' (exec_work b (steps_of ms) s' l' ts'))
          → (p : Step) (t : NetBits → Bool) → StepSafe slots srt s.next p
          → Extends (bool false) (exec_work b (p ∷ steps_of ms) s l ts).values L →
          Extends no_temp (exec_work b (p ∷ steps_of ms) s l ts).temps TS
          → WorkMet (meant p t ∷ ms) s (exec_work b (p ∷ steps_of ms) s l ts)
      go rec (declared q) t safe x y =
          let met = met_by q s l ts (steps_of ms) _ h x y safe in
          let w = rec (emit q s).st (exec b q s l ts).values (exec b q s l ts).temps met.here x y in
          let low = up_by q s l ts _ h met in
          record {
            holds = λ is said rest k. rw append_assoc (met.holds _ (w.holds is.1 said.1 rest k));
            sorted = λ rest k. rw append_assoc (met.sorted _ (w.sorted rest k));
            obligations = w.obligations;
            up = let high = w.up in omega arith;
            here = w.here;
          }
      go rec (asserted q) t safe x y =
          let met = met_by q s l ts (steps_of ms) _ h x y safe in
          let w = rec (emit q s).st (exec b q s l ts).values (exec b q s l ts).temps met.here x y in
          let low = up_by q s l ts _ h met in
          record {
            holds = λ is said rest k. rw append_assoc (met.holds _ (
              (wp_sound asg val q s _ [] (here-known slots b L TS s l ts h) (met.holds [] tt) is.0).post
                  ∙ ap bool said.0,
              w.holds is.1 said.1 rest k,
            ));
            sorted = λ rest k. rw append_assoc (met.sorted _ (met.post, w.sorted rest k));
            obligations = w.obligations;
            up = let high = w.up in omega arith;
            here = w.here;
          }
      go rec (obliged q) t safe x y =
          let met = met_by q s l ts (steps_of ms) _ h x y safe in
          let w = rec (emit q s).st (exec b q s l ts).values (exec b q s l ts).temps met.here x y in
          let low = up_by q s l ts _ h met in
          record {
            holds = λ is said rest k. rw append_assoc (met.holds _ (w.holds is.1 said.1 rest k));
            sorted = λ rest k. rw append_assoc (met.sorted _ (w.sorted rest k));
            obligations = (later_truth w.up met.post, w.obligations);
            up = let high = w.up in omega arith;
            here = w.here;
          }
