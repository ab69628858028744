-- Document 01, "Words": a cell, its output width and the slots it takes. The abstract syntax that every other layer
-- uses.
use Rattle.std.specs.Prelude.{Bool, true, false, cond, List, ℕ, ◌+◌, max, length}
use Rattle.logic.specs.Net.{Net}
use Rattle.logic.specs.declared.Trit.{Trit}
use Rattle.operators.specs.Operators.{compares}
use Rattle.cell.specs.declared.Standing.{Standing}
use Rattle.cell.specs.declared.Standing.TheVariants as S
-- Operations on one vector, #n n*.
pub use Rattle.operators.specs.declared.Unary.{Unary}
pub use Rattle.operators.specs.declared.Unary.TheVariants.{Buf as buf, Not as inverter}
-- Operations on two vectors of one width, #n n* n*.
pub use Rattle.operators.specs.declared.Binary.{Binary}
pub use Rattle.operators.specs.declared.Binary.TheVariants.{And as and, Or as or, Xor as xor, Mul as mul}
pub use Rattle.operators.specs.declared.Binary.TheVariants.{Eq as eq, ULt as ult, SLt as slt}
pub use Rattle.operators.specs.declared.Binary.TheVariants.{UDiv as udiv, UMod as umod}
pub use Rattle.operators.specs.declared.Binary.TheVariants.{SDivTrunc as sdiv_trunc, SModTrunc as smod_trunc}
-- Shifts, #n #m #stride n* m*.
pub use Rattle.operators.specs.declared.Shift.{Shift}
pub use Rattle.operators.specs.declared.Shift.TheVariants.{Shl as shl, UShr as ushr, SShr as sshr, XShr as xshr}

-- A net that may be inverted (`ControlNet`).
pub record Control : Type 0 where
  pub net : Net
  pub inverted : Bool

-- A flip-flop (`FlipFlop`); its width is that of its data.
pub record FlipFlop : Type 0 where
  pub reset_over_enable : Bool
  pub clock : Control
  pub clear : Control
  pub reset : Control
  pub enable : Control
  pub dat : List Net
  pub clear_value : List Trit
  pub reset_value : List Trit

pub data Cell : Type 0 where
  void note : Cell
  input io_buf : ℕ → Cell
  unary : Unary → List Net → Cell
  binary : Binary → List Net → List Net → Cell
  mux : Net → List Net → List Net → Cell
  adc : List Net → List Net → Net → Cell
  aig : Control → Control → Cell
  -- value, amount, stride
  shift : Shift → List Net → List Net → ℕ → Cell
  -- value, enable, and for each pattern its alternates
  match : List Net → Net → List (List (List Trit)) → Cell
  -- value, enable, update, offset
  assign : List Net → Net → List Net → ℕ → Cell
  dff : FlipFlop → Cell

-- The output width of an operation on two vectors of n nets: a comparison gives one.
abbrev pub binary_width : Binary → ℕ → ℕ
binary_width op n = cond (compares op) 1 n

-- The output width (`output_len`).
abbrev pub output_len : Cell → ℕ
output_len void = 0
output_len note = 0
output_len (input n) = n
output_len (io_buf n) = n
output_len (unary op a) = length a
output_len (binary op a b) = binary_width op (length a)
output_len (mux s a b) = length a
output_len (adc a b c) = length a + 1
output_len (aig a b) = 1
output_len (shift op value amount stride) = length value
output_len (match value enable patterns) = length patterns
output_len (assign value enable update offset) = length value
output_len (dff ff) = length ff.dat

-- A cell takes max(1, output width) slots.
abbrev pub slots_of : Cell → ℕ
slots_of c = max 1 (output_len c)

-- What stands at the slots of a cell, as far as reading nets goes.
abbrev pub standing : Cell → Standing
standing void = S.Void
standing note = S.Other
standing (input n) = S.Other
standing (io_buf n) = S.Other
standing (unary op a) = S.Other
standing (binary op a b) = S.Other
standing (mux s a b) = S.Other
standing (adc a b c) = S.Other
standing (aig a b) = S.Other
standing (shift op value amount stride) = S.Other
standing (match value enable patterns) = S.Other
standing (assign value enable update offset) = S.Other
standing (dff ff) = S.Dff

-- Whether that is a Void, and whether a Dff.
abbrev pub stands_void : Standing → Bool
stands_void S.Void = true
stands_void S.Dff = false
stands_void S.Other = false

abbrev pub stands_dff : Standing → Bool
stands_dff S.Void = false
stands_dff S.Dff = true
stands_dff S.Other = false
