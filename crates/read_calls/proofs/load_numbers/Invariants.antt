-- `read_calls::load_numbers` is safe and ends: the numbers keep their count, and those left to read fall. Assumes
-- nothing.
use Rattle.std.proofs.Common.{◌≡◌, length}
use Rattle.read_calls.proofs.load_numbers.Given as goal

abbrev pub invariant-loop-at : goal.invariant-loop-at
invariant-loop-at l = length l.numbers ≡ length l.initial.numbers
