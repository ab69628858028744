-- Laws of the definitions of Meant.
use mathlib.Core.Path.{◌≡◌}
use mathlib.Core.Bool.{Bool, true}
use mathlib.Core.List.{List, [], ◌∷◌, map}
use Prim.Native.Nat.{ℕ}
use Rattle.cell.specs.Each.{Each}
use Rattle.engine.specs.Call.{Call}
use Rattle.engine.specs.Meaning.{Value, as_bool, Assignment, Holds}
use Rattle.smt.specs.Emit.{St}
use Rattle.smt.specs.Formula.{NetBits, net_bits}
use Rattle.smt.specs.Wp.{Known}
use Rattle.order.specs.Verify.{Step, declared, asserted, obliged, work}
use Rattle.order.specs.Meant.{Meant}

abbrev pub steps_of : List Meant → List Step
steps_of = map (λ m. m.step)

-- ---- what each step says

-- The tests of the asserted steps hold, and those of the obliged steps in order.
abbrev pub Said : NetBits → Step → (NetBits → Bool) → Type 0
Said b (declared m) t = Unit {0}
Said b (asserted m) t = t b ≡ true
Said b (obliged m) t = Unit {0}

abbrev pub SaidOf : NetBits → Meant → Type 0
SaidOf b m = Said b m.step m.test

abbrev pub ask : Step → Bool → List Bool → List Bool
ask (declared m) t l = l
ask (asserted m) t l = l
ask (obliged m) t l = t ∷ l

unfoldable pub asks : NetBits → List Meant → List Bool
asks b [] = []
asks b (m ∷ ms) = ask m.step (m.test b) (asks b ms)

-- The Bools of terms.
unfoldable pub truths : (ℕ → Value) → List ℕ → List Bool
truths v l = map (λ k. as_bool (v k)) l

module _ (ρ : Assignment) (v : ℕ → Value) where
  pub record Worked (ms : List Meant) (s : St) (rest : List Call) : Type 0 where
    pub said : Each (SaidOf (net_bits ρ)) ms
    pub judged : truths v (work (steps_of ms) s).res ≡ asks (net_bits ρ) ms
    pub names : Known ρ v (work (steps_of ms) s).st.names
    pub more : Holds ρ v (work (steps_of ms) s).st.next rest
