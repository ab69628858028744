-- Document 01, "Words" and "Faults and what stays", 11: the cells of a design list, up to the first fault.
use Rattle.std.specs.Prelude.{ℕ, zero, suc, ◌+◌, max, List, cond, length, ltb, leb, Result, Ok, Err}
use Rattle.logic.specs.declared.Fault.{Fault}
use Rattle.logic.specs.declared.Slot.{Slot}
use Rattle.cell.specs.declared.Operation.{Operation}
use Rattle.cell.specs.Design.{Placed}
use Rattle.fields.specs.Field.{fault, unless, on_read}
use Rattle.cell_reader.specs.Record.{on_record, record_at}
use Rattle.cell_reader.specs.Parse.{cell_at}
use Rattle.placing.specs.declared.Placing.{Placing}
use Rattle.items.specs.Items.{Reading, stop, refuse, push}
use Rattle.placing.specs.declared.Cells.{Cells}

-- A cell must end by the base's end, or by the total's if it begins past the base; else fault 11, at its head.
abbrev pub limit_of : ℕ → ℕ → ℕ → ℕ
limit_of base total slot = cond (ltb slot base) base total

-- A placed cell by its parts, and what follows one that was read.
abbrev pub placing : Operation → ℕ → Slot → ℕ → Placing
placing op width after next = record { op = op; width = width; after = after; next = next }

module _ {A : Type 0} where
  abbrev pub on_placing : Result Placing Fault → (Fault → A) → (Operation → ℕ → Slot → ℕ → A) → A
  on_placing (Ok p) refusal rest = rest p.op p.width p.after p.next
  on_placing (Err e) refusal rest = refusal e

unfoldable pub placed_at : List ℕ → ℕ → ℕ → ℕ → ℕ → Result Placing Fault
placed_at w base total slot at =
    on_record (record_at w total at) Err (λ (op : Operation) (width next : ℕ).
    unless (leb (slot + max 1 width) (limit_of base total slot)) (Err (fault 11 at))
    (Ok (placing op width (record { 0 = slot + max 1 width }) next)))

-- Cells until the total's slots are taken; each takes at least one, so as many turns as slots are enough.
unfoldable pub cells_from : List ℕ → ℕ → ℕ → ℕ → ℕ → ℕ → Reading Placed
cells_from w base total zero slot at = stop (Ok at)
cells_from w base total (suc turns) slot at =
    cond (ltb slot total)
    (on_placing (placed_at w base total slot at) refuse (λ (op : Operation) (width : ℕ) (after : Slot) (next : ℕ).
    push (record { slot = slot; cell = cell_at w at }) (cells_from w base total turns after.0 next)))
    (stop (Ok at))

-- The first cell stands after the header, and takes slots from 0.
unfoldable pub cells_of : List ℕ → ℕ → ℕ → Reading Placed
cells_of w base total = cells_from w base total total 0 4

-- How many cells were read, with the place after them.
abbrev pub cell_count : ℕ → ℕ → Cells
cell_count count next = record { count = count; next = next }

abbrev pub counted : Reading Placed → Result Cells Fault
counted cells = on_read cells.scan Err (λ (next : ℕ). Ok (cell_count (length cells.items) next))
