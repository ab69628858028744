-- The line that names a loop, from what `order` answers with a word for each slot.
use mathlib.Core.Path.{◌≡◌, refl, ap, ◌∙◌}
use mathlib.Core.Bool.{Bool, true, false, cond}
use mathlib.Core.List.{List, [], ◌++◌}
use Prim.Native.Nat.{ℕ, ◌≤◌}
use native.Mathlib.Omega.{arith}
use lib.ListN.{length, take, drop, length-append}
use lib.Seq.{take_at}
use borrow.Author.Tests.{le-ltb}
use Rattle.std.specs.Prelude.{Result, Ok, Err}
use Rattle.logic.specs.declared.Fault.{Fault}
use Rattle.cell.specs.declared.Mode.{Mode}
use Rattle.cell.specs.Design.{Design, total}
use Rattle.design_list.specs.Read.{Read, refused, accepted, read}
use Rattle.design_list.proofs.AcceptedLaws.{accepted-read}
use Rattle.working_out.specs.Loop.{has_loop}
use Rattle.working_out.specs.Loop as w
use Rattle.loops.specs.Graph.{named_loop}
use Rattle.ordering.specs.declared.Ordering.{Ordering}
use Rattle.ordering.specs.declared.Ordering.TheVariants.{Ordered, Looped}
use Rattle.ordering.specs.Answer.{Orders}
use Rattle.loop_line.specs.Line.{loop_line}
use Rattle.program.specs.Output.{loop_text}

-- What the line is, for each answer.
abbrev Named : Read → List ℕ → Result Ordering Fault → Type 0
Named r slots (Ok (Ordered n)) = loop_text r ≡ []
Named r slots (Ok (Looped n)) = (loop_text r ≡ loop_line (take n slots)) × (n ≤ length slots)
Named r slots (Err e) = loop_text r ≡ []

module _ (mode : Mode) (list : List ℕ) {slots slots' : List ℕ} {a : Result Ordering Fault} (room : length slots ≡ 4096)
    (orders : Orders (read mode list) slots slots' a) where
  named : Named (read mode list) slots' a
  named = go (read mode list) refl orders
    where
      found : (d : Design) (reps pairs : ℕ) (b : Bool) → has_loop d ≡ b
          → slots' ≡ cond b (named_loop d) (w.order d) ++ drop (length (cond b (named_loop d) (w.order d))) slots
          → Named (accepted d reps pairs) slots'
          (Ok (cond b (Looped (length (named_loop d))) (Ordered (length (w.order d)))))
      found d reps pairs true e slice =
          let many = ap length slice ∙ length-append (named_loop d) (drop (length (named_loop d)) slots) in (
            rw (e, slice, take_at (named_loop d) (drop (length (named_loop d)) slots) (length (named_loop d)) refl),
            omega arith,
          )
      found d reps pairs false e slice = rw e

      go : (r : Read) → read mode list ≡ r → Orders r slots slots' a → Named r slots' a
      go (refused e) is o = rw o.answer
      go (accepted d reps pairs) is o =
          let low = (accepted-read mode list is).low in
          let roomy = le-ltb (length slots) (total d) (omega arith) in
          rw (o.answer, roomy) (found d reps pairs (has_loop d) refl (o.slice ∙ rw roomy))

  pub loop_named : {n : ℕ} → a ≡ Ok (Looped n) → (loop_text (read mode list) ≡ loop_line (take n slots')) × (n ≤ length slots')
  loop_named is = rw is at named

  pub order-unnamed : {n : ℕ} → a ≡ Ok (Ordered n) → loop_text (read mode list) ≡ []
  order-unnamed is = rw is at named

  pub refused-unnamed : {e : Fault} → a ≡ Err e → loop_text (read mode list) ≡ []
  refused-unnamed is = rw is at named
