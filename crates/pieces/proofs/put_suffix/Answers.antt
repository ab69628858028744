-- `pieces::put_suffix` meets its contract: any number but 1 and 2 is no suffix's. Assumes nothing.
use Rattle.std.proofs.Common.{◌≢◌}
use Rattle.pieces.proofs.Laws.{suffix-none}
use Rattle.engine.proofs.EmitLaws.{wrote_none}
use native.Mathlib.Omega.{arith}
use Rattle.pieces.proofs.put_suffix.Goals as goal

pub returns-in_default : goal.returns-in_default
returns-in_default c =
    let one : c.args.suffix ≢ 1 = omega arith in
    let two : c.args.suffix ≢ 2 = omega arith in
    rw (suffix-none c.args.suffix one two) (wrote_none _ _ (omega arith))
