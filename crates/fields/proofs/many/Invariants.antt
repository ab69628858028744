-- The steps from here answer what the steps from the start do.
use mathlib.Core.Path.{◌≡◌}
use Prim.Native.Nat.{ℕ, ◌-◌}
use Rattle.std.specs.Prelude.{Result}
use Rattle.logic.specs.declared.Fault.{Fault}
use Rattle.fields.specs.Field.{scan_many}
use Rattle.fields.proofs.many.Given as goal

abbrev pub invariant-loop-turn : goal.invariant-loop-turn
invariant-loop-turn g l =
    (f : ℕ → Result ℕ Fault) → ((at : ℕ) (r : Result ℕ Fault) → goal.F-post g l.step at r → r ≡ f at) →
    scan_many f l.n l.start ≡ scan_many f (l.n - l._turn) l.at
