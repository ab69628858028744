-- What a valuation that meets the calls of the steps says: every asserted test holds of the nets' bits, and the
-- obligations' terms have the values of their tests.
use mathlib.Core.Path.{◌≡◌, refl, ap, ap₂}
use mathlib.Core.Bool.{Bool, true}
use mathlib.Core.List.{List, [], ◌∷◌, ◌++◌, append_assoc}
use Prim.Native.Nat.{ℕ}
use Rattle.cell.specs.Each.{Each}
use Rattle.engine.specs.Call.{Call, assert}
use Rattle.engine.specs.Meaning.{Value, bool, as_bool, Assignment, Holds}
use Rattle.smt.specs.Prog.{Prog}
use Rattle.smt.specs.Emit.{St, emit}
use Rattle.smt.specs.Formula.{NetBits, net_bits}
use Rattle.smt.specs.Wp.{Known}
use Rattle.smt.proofs.WpLaws.{wp_sound}
use Rattle.order.specs.Verify.{Step, declared, asserted, obliged, work}
use Rattle.order.specs.Meant.{Meant, meant, Says, StepIs, MeantIs}
use Rattle.order.proofs.MeantLaws.{steps_of, asks, truths, Worked}

module _ (ρ : Assignment) (v : ℕ → Value) where
  -- One step more in front.
  declared_worked : (m : Prog _) (t : NetBits → Bool) (ms : List Meant) (s : St) (rest : List Call)
      → Worked ρ v ms (emit m s).st rest → Worked ρ v (meant (declared m) t ∷ ms) s rest
  unfolding work asks
  declared_worked m t ms s rest w =
      record { said = (tt, w.said); judged = w.judged; names = w.names; more = w.more }

  asserted_worked : (m : Prog ℕ) (t : NetBits → Bool) (ms : List Meant) (s : St) (rest : List Call) → t (net_bits ρ)
      ≡ true
      → Worked ρ v ms (emit m s).st rest → Worked ρ v (meant (asserted m) t ∷ ms) s rest
  unfolding work asks
  asserted_worked m t ms s rest e w =
      record { said = (e, w.said); judged = w.judged; names = w.names; more = w.more }

  obliged_worked : (m : Prog ℕ) (t : NetBits → Bool) (ms : List Meant) (s : St) (rest : List Call) →
      Says ρ v t (emit m s).res
      → Worked ρ v ms (emit m s).st rest → Worked ρ v (meant (obliged m) t ∷ ms) s rest
  unfolding work asks truths
  obliged_worked m t ms s rest e w =
      record {
        said = (tt, w.said);
        judged =
            ap₂ (λ (x : Bool) (l : List Bool). x ∷ l) (ap as_bool e) w.judged;
        names = w.names;
        more = w.more;
      }

  pub work_sound : (ms : List Meant) (s : St) (rest : List Call) → Each (MeantIs ρ v) ms → Known ρ v s.names
      → Holds ρ v s.next ((work (steps_of ms) s).calls ++ rest) → Worked ρ v ms s rest
  unfolding work
  work_sound [] s rest is kn h = unfold asks truths in record { said = tt; judged = refl; names = kn; more = h }
  work_sound (m ∷ ms) s rest is kn h =
      go (λ s' kn' h'. work_sound ms s' rest is.1 kn' h') m.step m.test is.0 h
    where
      go : ((s' : St) → Known ρ v s'.names → Holds ρ v s'.next ((work (steps_of ms) s').calls ++ rest) →
          Worked ρ v ms s' rest)
          → (p : Step) (t : NetBits → Bool) → StepIs ρ v p t →
          Holds ρ v s.next ((work (p ∷ steps_of ms) s).calls ++ rest)
          → Worked ρ v (meant p t ∷ ms) s rest
      go rec (declared q) t is h =
          let s' = (emit q s).st in
          let r = wp_sound ρ v q s _ ((work (steps_of ms) s').calls ++ rest) kn (rw append_assoc at h) is in
          declared_worked q t ms s rest (rec s' r.names r.more)
      go rec (asserted q) t is h =
          let s' = (emit q s).st in
          let r = wp_sound ρ v q s _ (assert (emit q s).res ∷ ((work (steps_of ms) s').calls ++ rest)) kn
          (rw append_assoc at h) is in
          asserted_worked q t ms s rest (truth r.post r.more.0) (rec s' r.names r.more.1)
        where
          truth : {k : ℕ} {b : Bool} → v k ≡ bool b → v k ≡ bool true → b ≡ true
          truth {k} {b} p q = cc
      go rec (obliged q) t is h =
          let s' = (emit q s).st in
          let r = wp_sound ρ v q s _ ((work (steps_of ms) s').calls ++ rest) kn (rw append_assoc at h) is in
          obliged_worked q t ms s rest r.post (rec s' r.names r.more)
