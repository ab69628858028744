-- `engine::build_bitvec_lit` meets its contract: the digits of the reduced number follow the head and the width.
-- Assumes nothing.
use Prim.Native.Nat.{◌≤◌}
use native.Mathlib.Omega.{arith}
use Rattle.engine.proofs.EmitLaws.{wrote_then, literal_record}
use Rattle.engine.proofs.build_bitvec_lit.Goals as goal

pub returns : goal.returns
returns c =
    let bits = c.min-bits.result in
    let value = c.args.value in
    let wrote =
    wrote_then
    (rw (c.head_word.ensures, c.number_word.ensures) at c.push2-next.ensures)
    (rw c.reduce.ensures at c.digit_words.ensures) c.well_formed.0.0 in
    let small : bits ≤ 64 = omega (arith, c.min-bits.ensures) in
    rw (← c.min-bits.ensures) (rw (literal_record bits value small) at wrote)
