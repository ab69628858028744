-- Document 02, change 4: "Add a part that answers either an order of the asserted cells and replaced Voids by first
-- slot ... or one loop as a run of first slots ... Either fills a lent slice of slot numbers from its start, no slot
-- twice, its length returned ... Checks: design-list faults come first; a slice with fewer words than slots is 14."
use Rattle.std.specs.Prelude.{◌≡◌, cond, List, ◌++◌, ℕ, ltb, length, drop, Result, Ok, Err}
use Rattle.logic.specs.declared.Fault.{Fault}
use Rattle.cell.specs.Design.{Design, total}
use Rattle.fields.specs.Field.{fault}
use Rattle.design_list.specs.Read.{Read, refused, accepted}
use Rattle.working_out.specs.Loop as w
use Rattle.working_out.specs.Loop.{has_loop}
use Rattle.loops.specs.Graph.{named_loop}
use Rattle.ordering.specs.declared.Ordering.{Ordering}
use Rattle.ordering.specs.declared.Ordering.TheVariants.{Ordered, Looped}

-- The slots that are written: the loop that is named, or the order.
abbrev pub slots_of : Design → List ℕ
slots_of d = cond (has_loop d) (named_loop d) (w.order d)

-- The answer, by the length of the lent slice.
abbrev pub order_of : Read → ℕ → Result Ordering Fault
order_of (refused e) room = Err e
order_of (accepted d replacements pairs) room =
    cond (ltb room (total d)) (Err (fault 14 (total d)))
    (Ok (cond (has_loop d) (Looped (length (named_loop d))) (Ordered (length (w.order d)))))

-- The slice afterwards: the slots, and past them what stood there; a refusal leaves it.
abbrev pub slots_after : Read → List ℕ → List ℕ
slots_after (refused e) slots = slots
slots_after (accepted d replacements pairs) slots =
    cond (ltb (length slots) (total d)) slots (slots_of d ++ drop (length (slots_of d)) slots)

-- Document 01's number of an answer, 0 where there is no fault; its value, the length or the fault's place; and 1 for a
-- loop.
abbrev pub number_of : Result Ordering Fault → ℕ
number_of (Ok (Ordered n)) = 0
number_of (Ok (Looped n)) = 0
number_of (Err e) = e.number

abbrev pub value_of : Result Ordering Fault → ℕ
value_of (Ok (Ordered n)) = n
value_of (Ok (Looped n)) = n
value_of (Err e) = e.place

abbrev pub looped_of : Result Ordering Fault → ℕ
looped_of (Ok (Ordered n)) = 0
looped_of (Ok (Looped n)) = 1
looped_of (Err e) = 0

-- What is promised of the answer and of the slice.
pub record Orders (r : Read) (slots slots' : List ℕ) (a : Result Ordering Fault) : Type 0 where
  pub answer : a ≡ order_of r (length slots)
  pub slice : slots' ≡ slots_after r slots
