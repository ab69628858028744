-- `arith::tv_shift` meets its contract: its calls are those of the model, one after the other. Assumes nothing.
use mathlib.Core.Path.{◌≡◌}
use Rattle.builder.proofs.Laws.{ran_as, ran_bind}
use Prim.Native.Nat.{suc, ◌-◌}
use native.Mathlib.Omega.{arith}
use Rattle.bits.proofs.Literals.{narrow, ones-lit}
use Rattle.smt.specs.Builder.{tv_extract, tv_shift}
use Rattle.arith.proofs.tv_shift.Goals as goal

pub returns : goal.returns
unfolding tv_shift tv_extract
returns c =
    λ low names marks.
    let args = c.args in
    let n = args.n in
    let w = args.p.width in
    let width : suc (n - 1) - 0 ≡ suc (n - 1) = omega arith in
    ran_as (ran_bind _ (c.bv_is_zero-no_x.ensures low w names marks)
    (ran_bind _ (c.build_binary-moved.ensures w w names marks)
    (ran_bind _ (c.build_bitvec_lit-all.ensures _ (rw (narrow _ low) (ones-lit _ low)) names marks)
    (ran_bind _ (c.build_bitvec_ite-x.ensures _ w names marks)
    (ran_bind _ (c.build_binary-y.ensures w w names marks)
    (rw (c.highest.ensures, c.trits-result.ensures)
    at (c.tv_extract.ensures w names marks))))))) (rw width)
