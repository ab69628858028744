-- `operands::extended_nets` meets its contract: what is filled in behind the copied words extends them. Assumes
-- nothing.
use mathlib.Core.Path.{◌≡◌}
use lib.Seq.{sets}
use Rattle.operands.specs.Words.{words_in, extended_words}
use Rattle.operands.proofs.Nets.{extended-stored, nets-extended}
use Rattle.operands.proofs.extended_nets.Goals as goal

pub returns : goal.returns
returns c =
    let args = c.args in
    let out = args.out.now in
    let words = args.words.now in
    let stored : c.fill.new.words
    ≡ sets out 0 (extended_words args.signed (words_in words args.n args.at) args.width) =
    rw (c.fill.ensures, c.extension-word.ensures, c.copy.ensures)
    (extended-stored args.signed out words args.n args.at args.width) in record {
      stored = stored;
      nets = λ wide room. rw stored
          (nets-extended args.signed out words args.n args.at args.width wide room);
    }
