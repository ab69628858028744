-- Laws of the definitions of Records.
use mathlib.Core.List.{List}
use Prim.Native.Nat.{ℕ, ◌≤◌}
use native.Mathlib.Omega.{arith}
use lib.Dec.{eqb}
use Rattle.engine.specs.Encode.{Op, operation_at}
use Rattle.engine.specs.Encode as o
use Rattle.call_list.specs.Literal.{payloads}
use Rattle.call_list.proofs.CursorsLaws.{bit-low}
use Rattle.term_values.specs.Records.{number_in}
use Rattle.record_values.specs.Records.{false_of}

-- How many false assertions the record at a place is.
abbrev pub false_by : List ℕ → List ℕ → ℕ → ℕ
false_by slice w at = false_of (operation_at w at) (number_in slice (payloads w at 0))

-- An operation is at most one false assertion.
pub false-low : (op : Op) (v : ℕ) → false_of op v ≤ 1
false-low (o.term op) v = omega arith
false-low o.declare v = omega arith
false-low o.assert v = bit-low (eqb v 0)
false-low o.check v = omega arith
false-low o.unknown v = omega arith
