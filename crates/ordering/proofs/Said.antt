-- What `order` says of the slots that it leaves, of every list, from its contract alone. Assumes nothing.
use mathlib.Core.Path.{◌≡◌, refl, sym, ap, ◌∙◌}
use mathlib.Core.Bool.{Bool, true, false, cond, true≢false}
use mathlib.Core.List.{List, ◌++◌}
use Prim.Native.Nat.{ℕ, ◌<◌}
use native.Mathlib.Omega.{arith}
use native.Mathlib.Decide.{dec_lt}
use lib.ListN.{length, drop}
use lib.Seq.{take_at}
use borrow.Author.Tests.{le-ltb, lt-ltb}
use Rattle.cell.specs.Design.{Design, total}
use Rattle.cell.specs.declared.Mode.{Mode}
use Rattle.right.specs.Laid.{Laid}
use Rattle.std.specs.Prelude.{Result, Ok}
use Rattle.logic.specs.declared.Fault.{Fault}
use Rattle.design_list.specs.Read.{read, accepted}
use Rattle.accepted.proofs.Laid.{accepted-laid}
use Rattle.working_out.specs.Loop.{Loop, has_loop}
use Rattle.working_out.specs.Loop as w
use Rattle.working_out.proofs.Solutions.{loop_decided}
use Rattle.loops.specs.Graph.{named_loop}
use Rattle.loops.proofs.Named.{named_loop_lem, whole-order}
use Rattle.ordering.specs.declared.Ordering.{Ordering}
use Rattle.ordering.specs.declared.Ordering.TheVariants.{Ordered, Looped}
use Rattle.ordering.specs.Answer.{Orders}
use Rattle.ordering.specs.Says.{Found, OrderSays}

module _ (d : Design) (laid : Laid d) (slots : List ℕ) where
  -- The slice begins with the slots of the answer.
  found : (b : Bool) → has_loop d ≡ b
      → Found d (cond b (named_loop d) (w.order d) ++ drop (length (cond b (named_loop d) (w.order d))) slots)
      (Ok (cond b (Looped (length (named_loop d))) (Ordered (length (w.order d)))))
  found true e = (
    rw (take_at (named_loop d) (drop (length (named_loop d)) slots) _ refl) (named_loop_lem d e),
    (loop_decided d laid).0 e,
  )
  found false e = (
    rw (take_at (w.order d) (drop (length (w.order d)) slots) _ refl) (whole-order d laid e),
    λ loop. true≢false (sym ((loop_decided d laid).1 loop) ∙ e),
  )

-- An order, and there is no loop of document 01; or a loop of it.
pub order-says : (list slots slots' : List ℕ) (r : Result Ordering Fault)
    → ((mode : Mode) → Orders (read mode list) slots slots' r) → OrderSays list slots' r
order-says list slots slots' r orders mode d replacements pairs is room = go (dec_lt (length slots) (total d))
  where
    here : Orders (accepted d replacements pairs) slots slots' r
    here = rw is at (orders mode)

    go : Dec (length slots < total d) → Found d slots' r
    go (yes short) =
        let kept : slots' ≡ slots = here.slice ∙ rw (lt-ltb (length slots) (total d) short) in
        let same = ap length kept in
        absurd (omega arith)
    go (no enough) =
        let roomy = le-ltb (length slots) (total d) (omega arith) in
        rw (here.answer, here.slice, roomy) (found d (accepted-laid mode list is) slots (has_loop d) refl)
