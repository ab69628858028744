-- Document 01, "Faults and what stays". What can be taken back out of a packed answer: the number, the value, and
-- whether anything is asked.
use Rattle.std.specs.Prelude.{◌≡◌, ℕ, ◌/◌, ◌%◌, ◌^◌, Result}
use Rattle.logic.specs.declared.Fault.{Fault}
use Rattle.requirement.specs.declared.Verified.{Verified}
use Rattle.requirement.specs.Verified.{number_of, value_of}
use Rattle.packed.specs.Verified.{asked_of}

-- The number, the value and whether anything is asked, taken out of a packed answer.
pub record Whole (a : Result Verified Fault) (packed : ℕ) : Type 0 where
  pub number : packed / 2 ^ 48 ≡ number_of a
  pub asked : packed / 2 ^ 47 % 2 ≡ asked_of a
  pub value : packed % 2 ^ 47 ≡ value_of a
