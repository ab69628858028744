-- `operands::overwritten_nets` meets its contract: the update is stored within the copied value. Assumes nothing.
use mathlib.Core.Path.{◌≡◌}
use lib.Seq.{sets}
use Rattle.operands.specs.Words.{words_in}
use Rattle.operands.proofs.Nets.{nets-overwritten}
use Rattle.operands.proofs.overwritten_nets.Goals as goal

pub returns : goal.returns
returns c =
    let args = c.args in
    let out = args.out.now in
    let words = args.words.now in
    let stored : c.copy-2.new.out
    ≡ sets (sets out 0 (words_in words args.n args.value)) args.offset (words_in words args.u args.update)
    =
    rw (c.copy-2.ensures, c.copy.ensures) in record {
      stored = stored;
      nets = λ room within. rw stored
          (nets-overwritten out words args.value args.n args.update args.u args.offset room within);
    }
