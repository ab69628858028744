-- `script::write_fitting` meets its contract: the room is what a dry run counts; only then the text is written. Assumes
-- nothing.
use Prim.Native.Nat.{◌≤◌}
use mathlib.Core.Path.{sym}
use native.Mathlib.Omega.{arith}
use lib.ListN.{length}
use Rattle.script.specs.Written.{script_of}
use Rattle.script.proofs.WrittenLaws.{room_enough, whole-text}
use Rattle.script.proofs.write_fitting.Goals as goal

pub returns : goal.returns
returns c =
    let text = script_of c.args.calls.now c.args.recorded.now in
    let room = length c.args.text.now in
    let short = c.well_formed.1.1.1.1.1.1.0 in
    let counted = c.script_length-needed.ensures in
    let wrote = c.put_script.ensures in
    let fits : length text ≤ room = omega (arith, counted, c.if-text-needed.false) in
    record {
      answers = sym (room_enough text room _ (omega arith) wrote.count
          (omega (arith, counted, wrote.count, c.if-text-needed.false)));
      writes = whole-text wrote fits;
    }
