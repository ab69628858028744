-- `little_endian::load` meets its contract. The loop's invariant: the first i words are stored. Assumes nothing.
use Rattle.little_endian.proofs.Laws.{words-none, words_turn}
use Rattle.little_endian.proofs.load.Goals as goal

pub loop-i-init : goal.loop-i-init
loop-i-init c = words-none c.args.input.now c.args.words.now

pub loop-i-preserved : goal.loop-i-preserved
loop-i-preserved c = rw (c.put.ensures, c.word.ensures, c.loop-i.invariant) (words_turn _ _ _)
