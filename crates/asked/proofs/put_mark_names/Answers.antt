-- `asked::put_mark_names` meets its contract: its arms are the cases of `names_of_mark`. Assumes nothing.
use Rattle.std.proofs.Common.{◌≢◌}
use borrow.Author.Tests.{ne_eqb}
use native.Mathlib.Omega.{arith}
use Rattle.engine.specs.Call as call
use Rattle.pieces.specs.Text.{spaced}
use Rattle.engine.proofs.EmitLaws.{wrote_none}
use Rattle.asked.proofs.Ending.{spaced-both}
use Rattle.asked.proofs.put_mark_names.Goals as goal

pub returns-in-1 : goal.returns-in-1
returns-in-1 c = rw (c.in-1.is, spaced-both call.n) c.put_spaced_pair.ensures

pub returns-in-2 : goal.returns-in-2
returns-in-2 c = rw (c.in-2.is, spaced-both call.p) c.put_spaced_pair-in-2.ensures

pub returns-in_default : goal.returns-in_default
unfolding spaced
returns-in_default c =
    let one : c.args.mark ≢ 1 = omega arith in
    let two : c.args.mark ≢ 2 = omega arith in
    rw (ne_eqb c.args.mark 1 one, ne_eqb c.args.mark 2 two) (wrote_none _ _ (omega arith))
