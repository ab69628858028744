-- `text::store_digits` meets its contract. The loop's invariant: the number is written as what is left of it and then
-- the digits stored, which stand where they belong. The measure is what is left. Assumes nothing.
use mathlib.Core.Path.{◌∙◌}
use Rattle.text.proofs.Digits.{stored-before, stored-all}
use Rattle.text.proofs.store_digits.Goals as goal

pub overflow_sub-end : goal.overflow_sub-end
overflow_sub-end c = stored-before c.loop-left.invariant c.loop-left-test.true

pub returns : goal.returns
returns c = c.set_byte-2.ensures ∙ stored-all c.loop-left.invariant c.loop-left-test.false
