-- `flip_flop_data::reset_value` meets its contract: the constants at the place of the reset value are packed into a
-- literal. Assumes nothing.
use mathlib.Core.Path.{ap, ◌∙◌}
use Prim.Native.Nat.{◌≤◌}
use native.Mathlib.Omega.{arith}
use Rattle.logic.proofs.TableLaws.{length-tab}
use Rattle.logic.specs.Word.{payload_of}
use Rattle.builder.proofs.Laws.{ran_as}
use Rattle.flip_flop_data.proofs.reset_value.Goals as goal

pub returns : goal.returns
returns c =
    let number = c.payload-n.ensures ∙ ap payload_of c.word_at.ensures in
    λ small names marks.
    let few : c.payload-n.result ≤ 64 = omega (arith, number, small) in
    let packed = c.constants-value.ensures.literal few in
    rw (← number)
    (ran_as (c.tv_lit.ensures _ packed.is_undef packed.is_one names marks) (rw length-tab))
