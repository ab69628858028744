-- `trits::tv_lit` meets its contract: its calls are those of the model, one after the other. Assumes nothing.
use Rattle.builder.proofs.Laws.{ran_as, ran_bind, ran_ret}
use lib.ListN.{length-map}
use Rattle.logic.specs.Trit.{x_of, y_of}
use Rattle.smt.specs.Builder.{tv_lit}
use Rattle.trits.proofs.tv_lit.Goals as goal

pub returns : goal.returns
unfolding tv_lit
returns c =
    λ ts is_x is_y names marks.
    rw c.trits.ensures (ran_as (ran_bind _ (c.bv_lit-is_undef.ensures _ is_x names marks)
    (ran_ret _ (c.bv_lit-is_one.ensures _ is_y names marks))) (rw (length-map ts x_of, length-map ts y_of)))
