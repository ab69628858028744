-- Document 01, "Bounds", and fault 4, of a cell; those of the design are in Valid.
use Rattle.std.specs.Prelude.{List, ◌^◌, ◌≤◌, ◌<◌, length}
use Rattle.logic.specs.declared.Trit.{Trit}
use Rattle.cell.specs.Cell.{Cell}
use Rattle.cell.specs.Cell as c
use Rattle.cell.specs.Design.{Design, Placed}
use Rattle.cell.specs.Each.{Each}

-- n, k, u ≤ 63; m ≤ 32; alternates ≤ 64. A stride is a number word's payload.
abbrev pub Bounded : Cell → Type 0
Bounded c.void = Unit {0}
Bounded c.note = Unit {0}
Bounded (c.input n) = n ≤ 63
Bounded (c.io_buf n) = n ≤ 63
Bounded (c.unary op a) = length a ≤ 63
Bounded (c.binary op a b) = length a ≤ 63
Bounded (c.mux s a b) = length a ≤ 63
Bounded (c.adc a b carry) = length a ≤ 63
Bounded (c.aig a b) = Unit {0}
Bounded (c.shift op value amount stride) = (length value ≤ 63) × (length amount ≤ 32) × (stride < 2 ^ 29)
Bounded (c.match value enable patterns) =
    (length value ≤ 63) × (length patterns ≤ 63)
    × Each (λ (alternates : List (List Trit)). length alternates ≤ 64) patterns
Bounded (c.assign value enable update offset) = (length value ≤ 63) × (length update ≤ 63)
Bounded (c.dff f) = length f.dat ≤ 63

-- The bounds hold of every cell and of every new one.
pub record Bounds (d : Design) : Type 0 where
  pub cells : Each (λ (p : Placed). Bounded p.cell) d.cells
  pub new_cells : Each (λ (p : Placed). Bounded p.cell) d.cell_reps
