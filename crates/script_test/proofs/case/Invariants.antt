-- `script_test::case` is safe. The loop's invariant: `i` words were read, up to a place in the input. Assumes nothing.
use mathlib.Core.Path.{◌≡◌}
use Prim.Native.Nat.{◌≤◌}
use lib.ListN.{length}
use Rattle.script_test.proofs.case.Given as goal

abbrev pub invariant-loop-i : goal.invariant-loop-i
invariant-loop-i l = (l.at ≤ length l.input) × (length l.calls ≡ 4096)
