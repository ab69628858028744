-- Document 01, "Modules", builder. Which operation makes an Input.
use Rattle.std.specs.Prelude.{Bool, true, false}
use Rattle.cell.specs.declared.Operation.{Operation}
use Rattle.cell.specs.declared.Operation.TheVariants as O

abbrev pub is_input_of : Operation → Bool
is_input_of O.Void = false
is_input_of O.Note = false
is_input_of O.IoBuf = false
is_input_of O.Input = true
is_input_of (O.Unary operator) = false
is_input_of (O.Binary operator) = false
is_input_of O.Mux = false
is_input_of O.Adc = false
is_input_of O.Aig = false
is_input_of (O.Shift operator) = false
is_input_of O.Match = false
is_input_of O.Assign = false
is_input_of O.Dff = false
