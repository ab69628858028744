-- `adc::carry_x` meets its contract. Invariant: the carries of the positions below `index` are stored, and what the
-- model does from `index` on completes its whole run (`CarryLeft`); each turn is one position. After the loop the last
-- carry is stored once more. Assumes nothing.
use mathlib.Core.Path.{◌≡◌, refl, ◌∙◌}
use Prim.Native.Nat.{◌-◌, ◌<◌}
use native.Mathlib.Omega.{arith}
use lib.ListN.{length}
use Rattle.vectors.proofs.Tables.{no_bits, bits_turn}
use Rattle.adc.proofs.Loops.{carry_start, carry_turn, carry_end}
use Rattle.adc.proofs.carry_x.Goals as goal

pub loop-index-init : goal.loop-index-init
loop-index-init c = (omega arith, refl, refl, λ room i names marks. rw (no_bits _) carry_start)

pub loop-index-preserved : goal.loop-index-preserved
loop-index-preserved c =
    let inv = c.loop-index.invariant in
    let index = c.loop-index.index in
    let low = c.loop-index-test.true in (
      omega arith,
      c.carry_one-last.auto.calls ∙ inv.1,
      c.put.auto.words ∙ inv.2,
      λ room i names marks.
          let inside : index < length c.loop-index.xs = omega (arith, inv.2, low, room) in
          rw (c.put.ensures, bits_turn _ index _ inside)
          (carry_turn low (inv.3 room i names marks) (c.carry_one-last.ensures i names marks)),
    )

pub returns : goal.returns
returns c =
    let inv = c.loop-index.invariant in
    let n = c.args.n in
    let all : c.loop-index.index ≡ n = omega (arith, inv.0, c.loop-index-test.false) in
    λ room i names marks.
    let inside : n < length c.loop-index.xs = omega (arith, inv.2, room) in
    rw (c.put-2.ensures, bits_turn _ n _ inside) (carry_end refl (rw all at (inv.3 room i names marks)))
