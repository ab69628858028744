-- Document 01, "Modules", builder. The parts into which the code cuts a function of the model.
use Rattle.std.specs.Prelude.{ℕ}
use Rattle.bitvec.specs.Bits.{nat2bv}
use Rattle.smt.specs.Prog.{Prog, ◌>>=◌, BitVec, TritVec, build_bitvec_lit, build_bvmul}

-- Of prepare_shift, what comes after the operands.
unfoldable pub amount_times : ℕ → TritVec → ℕ → Prog BitVec
amount_times w amount stride = do
  by ← build_bitvec_lit (nat2bv w stride)
  build_bvmul amount.y by
