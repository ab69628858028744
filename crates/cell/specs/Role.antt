-- Document 01, "Reading nets" and faults 10 and 12: what a cell is to who reads its net.
use Rattle.std.specs.Prelude.{Bool, true, false}
use Rattle.cell.specs.Cell.{Cell}
use Rattle.cell.specs.Cell as c

-- A Void, given from outside (Input and IoBuf), a Dff, or any other.
pub data Role : Type 0 where
  void given dff other : Role

abbrev pub role : Cell → Role
role c.void = void
role c.note = other
role (c.input n) = given
role (c.io_buf n) = given
role (c.unary op a) = other
role (c.binary op a b) = other
role (c.mux s a b) = other
role (c.adc a b carry) = other
role (c.aig a b) = other
role (c.shift op value amount stride) = other
role (c.match value enable patterns) = other
role (c.assign value enable update offset) = other
role (c.dff f) = dff

abbrev pub is_void : Role → Bool
is_void void = true
is_void given = false
is_void dff = false
is_void other = false

abbrev pub is_dff : Role → Bool
is_dff void = false
is_dff given = false
is_dff dff = true
is_dff other = false
