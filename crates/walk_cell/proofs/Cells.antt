-- The record of a cell in the list. Assumes nothing.
use mathlib.Core.Path.{◌≡◌}
use mathlib.Core.List.{List}
use Prim.Native.Nat.{ℕ, ◌+◌, ◌-◌}
use lib.ListN.{length, take, drop}
use Rattle.cell.specs.declared.Operation.{Operation}
use Rattle.cell_reader.specs.Parse.{op_at, cell_in, cell_at}
use Rattle.operands.proofs.Part.{part_all, cell_in_lem}

-- The cell of a record is that of the part of the list after its head.
pub fields_in_lem : (w : List ℕ) (at : ℕ) {op : Operation} → op ≡ op_at w at →
    cell_in (take (length w - (at + 1)) (drop (at + 1) w)) op 0 ≡ cell_at w at
unfolding cell_at
fields_in_lem w at same = rw (part_all w (at + 1), same) (cell_in_lem w (at + 1) (op_at w at))
