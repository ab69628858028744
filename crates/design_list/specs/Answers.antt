-- Document 01, "Words": a design list. What the reader answers, stage by stage, in plain numbers.
use Rattle.std.specs.Prelude.{ℕ, ◌+◌, Bool, List, Result, Ok, Err}
use Rattle.logic.specs.declared.Fault.{Fault}
use Rattle.cell.specs.Design.{Placed}
use Rattle.fields.specs.Field.{on_read}
use Rattle.items.specs.declared.Header.{Header}
use Rattle.items.specs.Items.{Reading, Test, cell_reps_from, net_reps_from, finish_at}
use Rattle.placing.specs.Cells.{cells_of}
use Rattle.voids.specs.Voids.{voids_at}
use Rattle.design_list.specs.declared.Extent.{Extent}

unfoldable pub net_reps_answer : List ℕ → (ℕ → Bool) → Header → ℕ → ℕ → ℕ → Result Extent Fault
net_reps_answer w void h count replacements pairs =
    on_read (net_reps_from w (h.base + h.added) h.netreps 0 pairs).scan Err (λ (next : ℕ).
    on_read (finish_at w next) Err (λ (_ : ℕ).
    on_read (voids_at w void count h.cellreps h.netreps) Err (λ (_ : ℕ).
    Ok record {
      base = h.base;
      added = h.added;
      cells = count;
      cellreps = h.cellreps;
      netreps = h.netreps;
      replacements = replacements;
      pairs = pairs;
    })))

unfoldable pub cell_reps_answer : List ℕ → Test → (ℕ → Bool) → Header → ℕ → ℕ → Result Extent Fault
cell_reps_answer w right void h count replacements =
    on_read (cell_reps_from w (h.base + h.added) right h.cellreps 0 replacements).scan Err (λ (pairs : ℕ).
    net_reps_answer w void h count replacements pairs)

module _ (w : List ℕ) (h : Header) where
  abbrev pub cells_read : Reading Placed
  cells_read = cells_of w h.base (h.base + h.added)
