-- Document 01, "Words", Match: per pattern #alternates and its constants, n for each alternate; alternates ≤ 64.
use Rattle.std.specs.Prelude.{ℕ, List, Result, Err}
use Rattle.logic.specs.declared.Fault.{Fault}
use Rattle.fields.specs.Field.{on_number, number_at, constant_at, scan_many}

unfoldable pub alternate_at : List ℕ → ℕ → ℕ → ℕ → Result ℕ Fault
alternate_at w n end at = scan_many (constant_at w end) n at

unfoldable pub pattern_at : List ℕ → ℕ → ℕ → ℕ → Result ℕ Fault
pattern_at w n end at = on_number (number_at w 64 end at) Err (scan_many (alternate_at w n end))

unfoldable pub patterns_at : List ℕ → ℕ → ℕ → ℕ → ℕ → Result ℕ Fault
patterns_at w n end k at = scan_many (pattern_at w n end) k at
