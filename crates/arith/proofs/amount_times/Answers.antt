-- `arith::amount_times` meets its contract: its calls are those of the model, one after the other. Assumes nothing.
use Rattle.builder.proofs.Laws.{ran_bind}
use mathlib.Core.Path.{ap}
use Rattle.bitvec.specs.Bits.{nat2bv}
use Rattle.bits.proofs.Literals.{narrow}
use Rattle.arith.specs.Parts.{amount_times}
use Rattle.arith.proofs.amount_times.Goals as goal

pub returns : goal.returns
unfolding amount_times
returns c =
    λ low i names marks.
    let stride = c.args.stride in
    ran_bind _ (c.build_bitvec_lit-bv_stride.ensures _ (ap (λ w. nat2bv w stride) (narrow _ low)) names marks)
    (c.build_binary.ensures i i names marks)
