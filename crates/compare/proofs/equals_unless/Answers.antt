-- `compare::equals_unless` meets its contract: its calls are those of the model, one after the other. Assumes nothing.
use Rattle.builder.proofs.Laws.{ran_bind, ran_ret}
use Rattle.compare.specs.Parts.{equals_unless}
use Rattle.compare.proofs.equals_unless.Goals as goal

pub returns : goal.returns
unfolding equals_unless
returns c =
    λ low i j names marks.
    rw c.trits.ensures (ran_bind _ (c.build_bool_lit-never.ensures names marks)
    (ran_bind _ (c.bv_no_x-no_x.ensures low i j names marks)
    (ran_bind _ (c.build_not-any_x.ensures names marks)
    (ran_bind _ (c.build_bool_ite-undef.ensures names marks)
    (ran_bind _ (c.bool_to_bv-x.ensures names marks)
    (ran_ret _ (c.build_binary-y.ensures i j names marks)))))))
