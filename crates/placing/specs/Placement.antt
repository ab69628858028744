-- Document 01, fault 11: a cell as it was placed, its record and the slots that it takes up to the limit.
use Rattle.std.specs.Prelude.{ℕ, ◌+◌, ◌≤◌, max, ◌≡◌, List}
use Rattle.cell.specs.declared.Operation.{Operation}
use Rattle.cell_reader.specs.Accepted.{IsRecord}
use Rattle.placing.specs.Cells.{limit_of}

-- A cell that was placed: its record was read, and its slots end within the limit.
pub record IsPlaced (w : List ℕ) (base total slot at : ℕ) (op : Operation) (width after next : ℕ) : Type 0 where
  pub record_is : IsRecord w total at op width next
  pub ends : after ≡ slot + max 1 width
  pub within : after ≤ limit_of base total slot
