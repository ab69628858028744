-- `engine::term_words` meets its contract: after i turns the references of the first i terms are written. Assumes
-- nothing.
use Prim.Native.Nat.{◌-◌, ◌<◌, ◌^◌}
use mathlib.Core.Path.{refl, ◌∙◌}
use native.Mathlib.Omega.{arith}
use lib.ListN.{length}
use Rattle.logic.specs.Word.{term_word}
use Rattle.engine.proofs.EmitLaws.{wrote_none, wrote_then, more-words}
use Rattle.engine.proofs.term_words.Goals as goal

pub loop-term-init : goal.loop-term-init
loop-term-init c = (refl, wrote_none _ _ (omega arith))

pub loop-term-preserved : goal.loop-term-preserved
loop-term-preserved c =
    let inv = c.loop-term.invariant in
    let one = rw c.term_word.ensures at c.push-next.ensures in
    let short : length c.args.calls.now < 2 ^ 64 = omega arith in (
      c.push-next.auto.calls ∙ inv.0,
      rw (more-words term_word c.args.terms.now c.loop-term.term-index c.loop-term-test.true)
          at (wrote_then inv.1 one short),
    )
