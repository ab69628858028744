-- Laws of the definitions of Packed: for every list and slice the parts of a packed answer can be taken out again.
use mathlib.Core.Path.{◌≡◌, refl}
use mathlib.Core.Bool.{Bool, true, false, cond}
use mathlib.Core.List.{List}
use Prim.Native.Nat.{ℕ, ◌≤◌}
use native.Mathlib.Omega.{arith}
use lib.Dec.{ltb}
use lib.ListN.{length}
use Rattle.cell.specs.declared.Mode.{Mode}
use Rattle.cell.specs.Design.{Design, total}
use Rattle.fields.specs.Field.{fault}
use Rattle.design_list.specs.Read.{Read, refused, accepted, read}
use Rattle.design_list.proofs.AcceptedLaws.{accepted-read}
use Rattle.accepted.proofs.Laid.{accepted-laid}
use Rattle.refusals.specs.Small.{Small}
use Rattle.refusals.proofs.SmallLaws.{read_small}
use Rattle.working_out.specs.Loop.{has_loop}
use Rattle.working_out.specs.Loop as w
use Rattle.loops.specs.Graph.{named_loop}
use Rattle.std.specs.Prelude.{Result, Ok, Err}
use Rattle.logic.specs.declared.Fault.{Fault}
use Rattle.ordering.specs.declared.Ordering.{Ordering}
use Rattle.ordering.specs.declared.Ordering.TheVariants.{Ordered, Looped}
use Rattle.ordering.specs.Answer.{number_of, value_of, order_of}
use Rattle.ordering.proofs.Short.{loop_short}
use Rattle.ordering.proofs.Answers.{nodes_short}
use Rattle.packed_order.specs.Packed.{packed_order, Whole}

-- Numbers of the documents' faults, and values of at most 2^27.
abbrev Low : Result Ordering Fault → Type 0
Low a = (number_of a ≤ 23) × (value_of a ≤ 134217728)

low-whole : (a : Result Ordering Fault) → Low a → Whole a (packed_order a)
low-whole (Ok (Ordered n)) low = record { number = omega arith; looped = omega arith; value = omega arith }
low-whole (Ok (Looped n)) low = record { number = omega arith; looped = omega arith; value = omega arith }
low-whole (Err e) low = record { number = omega arith; looped = omega arith; value = omega arith }

module _ (mode : Mode) (list : List ℕ) where
  answer-low : (room : ℕ) → Low (order_of (read mode list) room)
  answer-low room = go (read mode list) refl
    where
      of_design_lem : {d : Design} {replacements pairs : ℕ} → read mode list ≡ accepted d replacements pairs
          → (short loop : Bool) → has_loop d ≡ loop
          → Low (cond short (Err (fault 14 (total d)))
          (Ok (cond loop (Looped (length (named_loop d))) (Ordered (length (w.order d))))))
      of_design_lem is true loop e = let low = (accepted-read mode list is).low in (omega arith, omega arith)
      of_design_lem {d} is false true e =
          let low = (accepted-read mode list is).low in
          let few = loop_short d e in
          (omega arith, omega arith)
      of_design_lem {d} is false false e =
          let low = (accepted-read mode list is).low in
          let few = nodes_short d (accepted-laid mode list is) low in
          (omega arith, omega arith)

      go : (r : Read) → read mode list ≡ r → Low (order_of r room)
      go (refused e) is =
          let small : Small e = rw is at (read_small mode list) in
          (omega (arith, small.0), omega (arith, small.1))
      go (accepted d replacements pairs) is = of_design_lem is (ltb room (total d)) (has_loop d) refl

  -- What `order` answers, for every list and every slice.
  pub order-whole : (room : ℕ) → let a = order_of (read mode list) room in Whole a (packed_order a)
  order-whole room = low-whole (order_of (read mode list) room) (answer-low room)
