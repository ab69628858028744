-- `engine::build_and` meets its contract: the references follow the head, whose count has 24 bits. Assumes nothing.
use mathlib.Core.Path.{◌∙◌}
use Rattle.engine.proofs.EmitLaws.{wrote_then, and-head}
use Rattle.engine.proofs.build_and.Goals as goal

pub returns : goal.returns
returns c =
    let head_word_lem = c.head_word.ensures ∙ and-head c.args.terms.now in
    wrote_then (rw head_word_lem at c.push-next.ensures) c.term_words.ensures c.well_formed.0.0
