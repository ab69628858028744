-- Document 01, "Modules", builder. The parts into which the code cuts a shift, and the operands that it finds in the
-- fields (#n #m #stride n* m*).
use Rattle.std.specs.Prelude.{Bool, List, ℕ, ◌+◌}
use Rattle.logic.specs.Net.{Net}
use Rattle.engine.specs.Call.{BinaryOp}
use Rattle.cell_reader.specs.Parse.{number_in, nets_in}
use Rattle.smt.specs.Prog.{Prog, TritVec, ◌>>=◌}
use Rattle.smt.specs.Builder.{Prepared, prepare_shift, tv_shift}

abbrev pub value_in : List ℕ → List Net
value_in w = nets_in w (number_in w 0) 3

abbrev pub amount_in : List ℕ → List Net
amount_in w = nets_in w (number_in w 1) (3 + number_in w 0)

-- prepare_shift of a value by the amount and the stride of the fields.
abbrev pub prepared_in : (ℕ → Bool) → List ℕ → List Net → Bool → Prog Prepared
prepared_in past w nets signed = prepare_shift past nets (amount_in w) (number_in w 2) signed

-- `shifted` of a value, by the operations on its x and on its y.
abbrev pub shifted_by : (ℕ → Bool) → List ℕ → List Net → Bool → BinaryOp → BinaryOp → Prog TritVec
shifted_by past w nets signed on_x on_y = prepared_in past w nets signed >>= tv_shift on_x on_y (number_in w 0)
