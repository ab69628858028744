-- The steps from here answer what the steps from the start do.
use mathlib.Core.Path.{◌≡◌}
use Prim.Native.Nat.{◌-◌}
use Rattle.fields.specs.Field.{scan_many}
use Rattle.fields.proofs.many_steps.Given as goal

abbrev pub invariant-loop : goal.invariant-loop
invariant-loop g l =
    scan_many (g.S.Step.answer l.step) l.n l.start ≡ scan_many (g.S.Step.answer l.step) (l.n - l.counter) l.at
