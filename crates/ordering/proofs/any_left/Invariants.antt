-- No flag before place `a` is set. Assumes nothing.
use Rattle.std.proofs.Common.{◌≡◌, ◌==◌, false, not}
use Rattle.std.proofs.Common.{take}
use Rattle.std.specs.List.{list_any}
use Rattle.ordering.proofs.any_left.Given as goal

abbrev pub invariant-loop-a : goal.invariant-loop-a
invariant-loop-a l = list_any (λ flag. not (flag == 0)) (take l.a l.flags) ≡ false
