-- `strict::tv_strict` meets its contract: its calls are those of the model, one after the other. Assumes nothing.
use Rattle.builder.proofs.Laws.{ran_as, ran_bind, ran_ret}
use lib.ListN.{length-replicate}
use Rattle.bits.proofs.Literals.{narrow, zeros-lit, ones-lit}
use Rattle.smt.specs.Builder.{tv_strict}
use Rattle.strict.proofs.tv_strict.Goals as goal

pub returns : goal.returns
unfolding tv_strict
returns c =
    λ low names marks.
    let n = c.args.n in
    rw c.trits.ensures
    (ran_as (ran_bind _ (c.build_bitvec_lit-none.ensures _ (rw (narrow _ low) (zeros-lit _)) names marks)
    (ran_bind _ (c.build_bitvec_lit-all.ensures _ (rw (narrow _ low) (ones-lit _ low)) names marks)
    (ran_bind _ (c.build_bitvec_ite-x.ensures _ n names marks)
    (ran_ret _ (c.build_binary-y.ensures n n names marks))))) (rw length-replicate))
