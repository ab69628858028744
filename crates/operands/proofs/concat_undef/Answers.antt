-- `operands::concat_undef` meets its contract: the word of X is stored behind the copied words. Assumes nothing.
use mathlib.Core.Path.{◌≡◌}
use mathlib.Core.List.{[], ◌∷◌, ◌++◌}
use lib.Seq.{sets}
use Rattle.operands.specs.Words.{words_in}
use Rattle.operands.proofs.Nets.{topped_stored, nets_topped}
use Rattle.operands.proofs.concat_undef.Goals as goal

pub returns : goal.returns
returns c =
    let args = c.args in
    let out = args.out.now in
    let words = args.words.now in
    let stored : c.put.new.words ≡ sets out 0 (words_in words args.n args.at ++ (536870911 ∷ [])) =
    rw (c.put.ensures, c.net_word.ensures, c.copy.ensures)
    (topped_stored out words args.n args.at) in
    record { stored = stored; nets = λ room. rw stored (nets_topped out words args.n args.at room) }
