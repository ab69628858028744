-- Document 01, "Faults and what stays". A word of 64 bits: bits 63 to 48 the fault number (0: none), bits 47 to 0 its
-- place or what the entry says.
use Rattle.std.specs.Prelude.{ℕ, ◌+◌, ◌*◌, ◌%◌, ◌^◌}
use Rattle.logic.specs.declared.Fault.{Fault}

-- A number above a value.
abbrev pub packed_as : ℕ → ℕ → ℕ
packed_as number value = number % 2 ^ 16 * 2 ^ 48 + value % 2 ^ 48

-- A refusal of any entry.
abbrev pub packed_fault : Fault → ℕ
packed_fault e = packed_as e.number e.place
