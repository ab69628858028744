-- `decision::matches` meets its contract. Invariant: `place` is that of pattern i (`Reached`), the terms of the
-- patterns below i are stored, and if the rest of the patterns is run from here, all of them were run from the start
-- (`Left`). Assumes nothing.
use mathlib.Core.Path.{◌≡◌, refl, ap, ◌∙◌}
use Prim.Native.Nat.{◌<◌, ◌+◌, ◌*◌, ◌-◌}
use native.Mathlib.Omega.{arith}
use lib.ListN.{length}
use Rattle.logic.specs.Word.{payload_of}
use Rattle.vectors.proofs.Tables.{no_elements, elements_turn}
use Rattle.values.proofs.Collect.{left-start, left_turn, left_end}
use Rattle.decision.proofs.Patterns.{reached_start, reached_room, reached_next, reached_turn}
use Rattle.decision.proofs.Patterns.{reached_end}
use Rattle.decision.proofs.matches.Goals as goal

pub loop-i-init : goal.loop-i-init
loop-i-init c = (
  omega arith,
  refl,
  refl,
  refl,
  refl,
  omega arith,
  λ room low narrow short few. (reached_start low few, rw (no_elements _) (left-start _ _)),
)

pub loop-i-preserved : goal.loop-i-preserved
loop-i-preserved c =
    let args = c.args in
    let inv = c.loop-i.invariant in
    let i = c.loop-i.i in
    let more = c.loop-i-test.true in
    let count-is = c.payload-alternates.ensures ∙ ap payload_of c.word_at.ensures in
    let next-is = rw count-is at c.alternate_at-place.ensures in (
      omega arith,
      c.sum-made.auto.calls ∙ inv.1,
      c.sum-made.auto.names ∙ inv.2,
      c.sum-made.auto.marks ∙ inv.3,
      c.put_element.auto.terms ∙ inv.4,
      omega (arith, next-is),
      λ room low narrow short few.
          let here = inv.6 room low narrow short few in
          let inside : 2 * i + 1 < length c.loop-i.terms = omega (arith, inv.4, more, room) in (
            reached_turn _ more narrow short here.0 next-is,
            rw (c.put_element.ensures, elements_turn _ i _ _ inside)
                (left_turn _ _ i _ (reached_next more here.0) here.1
                (c.sum-made.ensures (reached_room more narrow short here.0))),
          ),
    )

pub returns : goal.returns
returns c =
    let inv = c.loop-i.invariant in
    let all : c.loop-i.i ≡ c.args.k = omega (arith, inv.0, c.loop-i-test.false) in
    λ room low narrow short few.
    let here = inv.6 room low narrow short few in
    rw all at (left_end _ _ _ (reached_end c.loop-i-test.false here.0) here.1)
