-- `values::net_terms` meets its contract: after i turns the terms have the first i elements, and if the rest of the
-- nets is read from here, all of them were read from the start; each turn reads one net more.
-- Assumes nothing.
use mathlib.Core.Path.{◌≡◌, refl, ◌∙◌}
use Prim.Native.Nat.{◌<◌, ◌+◌, ◌*◌, ◌-◌, ◌^◌}
use native.Mathlib.Omega.{arith}
use lib.ListN.{length}
use Rattle.vectors.proofs.Tables.{no_elements, elements_turn}
use Rattle.values.proofs.Collect.{left-start, left_turn, left_end, nets-next, nets-end}
use Rattle.values.proofs.net_terms.Goals as goal

pub loop-i-init : goal.loop-i-init
loop-i-init c = (omega arith, refl, refl, refl, refl, λ room. rw (no_elements _) (left-start _ _))

pub loop-i-preserved : goal.loop-i-preserved
loop-i-preserved c =
    let inv = c.loop-i.invariant in
    let args = c.args in
    let i = c.loop-i.i in
    let low : c.payload.result < 2 ^ 29 = omega (arith, c.payload.ensures) in
    let read = c.read_net-made.ensures low in (
      omega arith,
      c.read_net-made.auto.calls ∙ inv.1,
      c.read_net-made.auto.names ∙ inv.2,
      c.read_net-made.auto.marks ∙ inv.3,
      c.put_element.auto.terms ∙ inv.4,
      λ room.
          let more = c.loop-i-test.true in
          let inside : 2 * i + 1 < length c.loop-i.terms = omega (arith, inv.4, more, room) in
          let next = nets-next args.words.now args.n args.at i more in
          rw (c.put_element.ensures, elements_turn _ i _ _ inside)
          (left_turn _ _ i _ next (inv.5 room)
          (rw (c.payload.ensures, c.word_at-word.ensures) at read)),
    )

pub returns : goal.returns
returns c =
    let inv = c.loop-i.invariant in
    let args = c.args in
    let all : c.loop-i.i ≡ args.n = omega (arith, inv.0, c.loop-i-test.false) in
    let none = nets-end args.words.now args.n args.at _ c.loop-i-test.false in
    λ room. rw all at (left_end _ _ _ none (inv.5 room))
