-- `asked::put_names` meets its contract. The loop's invariant: what is written and what the marks from `slot` on ask
-- for are all names. Assumes nothing.
use mathlib.Core.Path.{◌≡◌}
use mathlib.Core.List.{List}
use Prim.Native.Nat.{ℕ}
use lib.ListN.{length}
use Rattle.engine.specs.Emit.{Wrote}
use Rattle.asked.proofs.Ending.{NamesLeft}
use Rattle.asked.proofs.put_names.Given as goal

abbrev pub invariant-loop-slot : goal.invariant-loop-slot
invariant-loop-slot l = (done : List ℕ) × (length l.text ≡ length l.initial.text)
    × NamesLeft l.recorded l.first l.slot done × Wrote l.initial.text l.start done l.text l.at
