-- Document 01, "Faults and what stays", and document 02, changes 4 and 7. The answers of the C interface for a design
-- list, each packed into one word of 64 bits, and what the slices hold.
use Rattle.std.specs.Prelude.{◌≡◌, List, ℕ, length, Result}
use Rattle.logic.specs.declared.Fault.{Fault}
use Rattle.design_list.specs.Read.{Read, number_of, value_of}
use Rattle.requirement.specs.Verified.{verified, unroomed, calls_after, recorded_after}
use Rattle.packing.specs.Packed.{packed_as}
use Rattle.packed.specs.Verified.{packed_verified, Told}
use Rattle.ordering.specs.Answer.{order_of, slots_after}
use Rattle.packed_order.specs.Packed.{packed_order}
use Rattle.design_list.specs.declared.Extent.{Extent}

-- The reader's number, and below it the place of the fault or base + added.
abbrev pub packed : Result Extent Fault → ℕ
packed a = packed_as (number_of a) (value_of a)

-- What the order of work answers in a mode, packed, and what it leaves in the two slices.
pub record PackedVerified (mode : ℕ) (list calls recorded calls' recorded' : List ℕ) (r : ℕ) : Type 0 where
  pub answers : r ≡ packed_verified (verified mode list (length calls) (length recorded))
  pub writes : calls' ≡ calls_after mode list calls recorded
  pub marks : recorded' ≡ recorded_after mode list calls recorded

-- What it answers where the slices have room enough, told with its counts.
abbrev pub PackedCounts : ℕ → List ℕ → List ℕ → List ℕ → ℕ → Type 0
PackedCounts mode list = Told (unroomed mode list)

-- The order or the loop of what was read, packed, and what it leaves in the slice.
pub record PackedOrder (list : Read) (slots slots' : List ℕ) (r : ℕ) : Type 0 where
  pub answers : r ≡ packed_order (order_of list (length slots))
  pub writes : slots' ≡ slots_after list slots
