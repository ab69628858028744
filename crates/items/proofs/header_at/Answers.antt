-- A base that was read is at most 4,096.
use mathlib.Core.Path.{sym, ◌∙◌}
use native.Mathlib.Omega.{arith}
use Rattle.fields.proofs.AcceptedLaws.{number_read}
use Rattle.items.proofs.header_at.Goals as goal

pub overflow_sub-base : goal.overflow_sub-base
overflow_sub-base c =
    let read = number_read _ _ _ _ (sym c.number_in.ensures ∙ c.in_ok-base.was) in
    omega (arith, read.bounded)
