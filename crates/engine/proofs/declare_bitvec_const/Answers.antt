-- `engine::declare_bitvec_const` meets its contract: the head, the letter and index, the suffix and width follow one
-- another. Assumes nothing.
use Rattle.engine.proofs.EmitLaws.{wrote_then}
use Rattle.engine.proofs.declare_bitvec_const.Goals as goal

pub returns : goal.returns
returns c =
    let short = c.well_formed.0.0 in
    let head-wrote = rw c.head_word.ensures at c.push-named.ensures in
    let name-wrote =
    rw (
      c.number_word.ensures,
      c.letter_number.ensures,
      c.number_word-2.ensures,
    ) at c.push2-next.ensures in
    let tail-wrote =
    rw (
      c.number_word-3.ensures,
      c.suffix_number.ensures,
      c.number_word-4.ensures,
    ) at c.push2.ensures in
    wrote_then (wrote_then head-wrote name-wrote short) tail-wrote short
