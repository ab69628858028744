-- Where a loop stands among the cells of an accepted list: the cells that are left, each as wide as the slot table
-- says. A turn takes the first of them, whose record stands at the loop's place.
use mathlib.Core.Path.{◌≡◌, refl, sym, ◌∙◌}
use mathlib.Core.Bool.{not, ◌&&◌}
use mathlib.Core.List.{List, [], ◌∷◌}
use Prim.Native.Nat.{ℕ, ◌+◌, ◌≤◌, ◌<◌, max}
use native.Mathlib.Omega.{arith}
use lib.Dec.{eqb}
use Rattle.cell.specs.declared.Mode.{Mode}
use Rattle.cell.specs.declared.Operation.{Operation}
use Rattle.cell.specs.declared.Operation.TheVariants as O
use Rattle.cell.specs.Cell.{output_len}
use Rattle.cell.specs.Design.{Design, Placed, total}
use Rattle.cell.specs.Each.{Each}
use Rattle.cell_reader.specs.Parse.{cell_in, op_at, cell_at, end_at}
use Rattle.cell_reader.specs.Accepted.{IsRecord}
use Rattle.placing.specs.Cover.{Walk, done, placed}
use Rattle.design_list.specs.Read.{read, accepted}
use Rattle.design_list.proofs.AcceptedLaws.{accepted-read}
use Rattle.accepted.proofs.Laid.{stages}
use Rattle.working_out.specs.Reading.{asserted}
use Rattle.slots.specs.Tells.{width_in}
use Rattle.reads_table.specs.Table.{IsTable}
use Rattle.reads_table.specs.Nodes.{has_rule, asserted_in}

-- The cells from a slot and a place on, up to the place `end`.
pub record AtCell (d : Design) (w table : List ℕ) (end index at : ℕ) : Type 0 where
  pub cells : List Placed
  pub walk : Walk w d.base (total d) index at cells end
  pub widths : Each (λ (p : Placed). width_in table p.slot ≡ output_len p.cell) cells

-- The cell of the record at a place, placed at a slot.
abbrev pub placed_at : List ℕ → ℕ → ℕ → Placed
placed_at w index at = record { slot = index; cell = cell_at w at }

-- A turn: the first cell that is left, its record and its width, and the place after it.
pub record CellTurn (d : Design) (w table : List ℕ) (end index at : ℕ) (cells : List Placed) : Type 0 where
  pub op : Operation
  pub width : ℕ
  pub record_is : IsRecord w (total d) at op width (end_at w at)
  pub wide : width_in table index ≡ output_len (cell_at w at)
  pub next : AtCell d w table end (index + max 1 (width_in table index)) (end_at w at)
  pub first : cells ≡ placed_at w index at ∷ next.cells

-- At the start all cells are left.
unfoldable pub cells-start : (mode : Mode) (w : List ℕ) {table : List ℕ} {d : Design} {replacements pairs : ℕ}
    → read mode w ≡ accepted d replacements pairs → IsTable d table → AtCell d w table replacements 0 4
cells-start mode w {d = d} accepts is =
    record { cells = d.cells; walk = (stages (accepted-read mode w accepts)).walk; widths = is.tells.widths }

module _ (d : Design) (w table : List ℕ) {end : ℕ} where
  turn_in : {index at : ℕ} {cells : List Placed} → Walk w d.base (total d) index at cells end
      → Each (λ (p : Placed). width_in table p.slot ≡ output_len p.cell) cells → index < total d
      → CellTurn d w table end index at cells
  turn_in (done full ended) widths inside = absurd (omega arith)
  turn_in {index} {at} (placed {op = op} {width = width} {cells = cells} inside' is more) widths inside =
      let rec = is.record_is in
      let wide : width ≡ width_in table index = rec.same_width ∙ sym widths.0 in
      record {
        op = op;
        width = width;
        record_is = rw (← rec.ends) rec;
        wide = widths.0;
        next = record { cells = cells; walk = rw (← wide, ← is.ends, ← rec.ends) more; widths = widths.1 };
        first = refl;
      }

  pub cell_turn : {index at : ℕ} (place : AtCell d w table end index at) → index < total d
      → CellTurn d w table end index at place.cells
  cell_turn place inside = turn_in place.walk place.widths inside

  end_in : {index at : ℕ} {cells : List Placed} → Walk w d.base (total d) index at cells end → total d ≤ index
      → (cells ≡ []) × (at ≡ end)
  end_in (done full ended) past = (refl, ended)
  end_in (placed inside is more) past = absurd (omega arith)

  -- After the last slot no cell is left, and the place is the end.
  pub cells-end : {index at : ℕ} (place : AtCell d w table end index at) → total d ≤ index
      → (place.cells ≡ []) × (at ≡ end)
  cells-end place past = end_in place.walk past

-- ---- which cells are asserted

-- A cell is asserted by its operation and its width.
asserted-op : (w : List ℕ) (op : Operation) (at : ℕ)
    → asserted (cell_in w op at) ≡ (has_rule op && not (eqb (output_len (cell_in w op at)) 0))
asserted-op w O.Void at = refl
asserted-op w O.Note at = refl
asserted-op w O.IoBuf at = refl
asserted-op w O.Input at = refl
asserted-op w (O.Unary operator) at = refl
asserted-op w (O.Binary operator) at = refl
asserted-op w O.Mux at = refl
asserted-op w O.Adc at = refl
asserted-op w O.Aig at = refl
asserted-op w (O.Shift operator) at = refl
asserted-op w O.Match at = refl
asserted-op w O.Assign at = refl
asserted-op w O.Dff at = refl

-- By the words, where the table's width is the cell's.
pub asserted_in_lem : (w table : List ℕ) (at index : ℕ) → width_in table index ≡ output_len (cell_at w at)
    → asserted_in w table at index ≡ asserted (cell_at w at)
unfolding cell_at
asserted_in_lem w table at index wide = rw wide (sym (asserted-op w (op_at w at) (at + 1)))
