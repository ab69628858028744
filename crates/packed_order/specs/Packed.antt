-- Document 02, change 4, for the C interface: below the fault number its place, or the length with bit 47 set for a
-- loop.
use Rattle.std.specs.Prelude.{◌≡◌, ℕ, ◌+◌, ◌*◌, ◌/◌, ◌%◌, ◌^◌, Result}
use Rattle.logic.specs.declared.Fault.{Fault}
use Rattle.packing.specs.Packed.{packed_as}
use Rattle.ordering.specs.declared.Ordering.{Ordering}
use Rattle.ordering.specs.Answer.{number_of, value_of, looped_of}

abbrev pub packed_order : Result Ordering Fault → ℕ
packed_order a = packed_as (number_of a) (looped_of a * 2 ^ 47 + value_of a)

-- The number, whether it is a loop, and the value, taken out of a packed answer.
pub record Whole (a : Result Ordering Fault) (packed : ℕ) : Type 0 where
  pub number : packed / 2 ^ 48 ≡ number_of a
  pub looped : packed / 2 ^ 47 % 2 ≡ looped_of a
  pub value : packed % 2 ^ 47 ≡ value_of a
