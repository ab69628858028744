-- Document 01, "Faults and what stays", 12 and 13: replaced slots, and froms, strictly ascend. What is known after one
-- replacement: the least number that the next one may have and the place after this one.
use Rattle.std.specs.Prelude.{ℕ, Result, Ok, Err}
use Rattle.logic.specs.declared.Fault.{Fault}
use Rattle.logic.specs.declared.Net.{Net}
use Rattle.logic.specs.declared.Slot.{Slot}

-- Of a cell replacement the number is a slot's.
abbrev pub cell_step : Result (ℕ × ℕ) Fault → Result (Slot × ℕ) Fault
cell_step (Ok (least, next)) = Ok (record { 0 = least }, next)
cell_step (Err e) = Err e

-- Of a net replacement it is a net number.
abbrev pub net_step : Result (ℕ × ℕ) Fault → Result (Net × ℕ) Fault
net_step (Ok (least, next)) = Ok (record { 0 = least }, next)
net_step (Err e) = Err e
