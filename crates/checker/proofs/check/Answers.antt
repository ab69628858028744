-- `checker::check` meets its contract: the table of names starts as zeros, and the answer is that of the check with it.
-- Assumes nothing.
use native.Mathlib.Nat.{le_refl}
use Rattle.checker.proofs.CheckingLaws.{zeros-all}
use Rattle.checker.proofs.check.Goals as goal

pub check_records-requires : goal.check_records-requires
check_records-requires c = (λ k. zeros-all 64512 k, le_refl 9)
