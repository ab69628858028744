-- `text::store_digits` meets its contract. The loop's invariant: the number is written as what is left of it and then
-- the digits stored, which stand where they belong. The measure is what is left. Assumes nothing.
use Rattle.text.proofs.Digits.{Stored}
use Rattle.text.proofs.store_digits.Given as goal

abbrev pub invariant-loop-left : goal.invariant-loop-left
invariant-loop-left l = Stored l.initial.text l.at l.n l.text l.left l.end

abbrev pub decreases-loop-left : goal.decreases-loop-left
decreases-loop-left l = l.left
