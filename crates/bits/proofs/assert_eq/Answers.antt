-- `bits::assert_eq` meets its contract: two calls, of which the first makes a term. Assumes nothing.
use Rattle.bits.proofs.Temporaries.{called_two}
use Rattle.bits.proofs.assert_eq.Goals as goal

pub returns : goal.returns
returns c =
    called_two _ _ c.well_formed.0.0 c.build_eq-words.ensures
    c.assert_term.ensures c.made.ensures
