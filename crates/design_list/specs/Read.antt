-- Document 01, "Faults and what stays", Order: "list length (4, then 1), header words (2, 4), records left to right.
-- ... After the last word 10, in list order". `read` of a list of words is its first fault, or the design that it
-- stands for in a mode (document 02, change 7).
use Rattle.std.specs.Prelude.{ℕ, ◌+◌, ◌≡◌, List, cond, length, ltb, Result, Ok, Err}
use Rattle.logic.specs.declared.Fault.{Fault}
use Rattle.cell.specs.Design.{Placed, NetPair, Design, total}
use Rattle.cell.specs.declared.Mode.{Mode}
use Rattle.fields.specs.Field.{fault, on_read}
use Rattle.items.specs.declared.Header.{Header}
use Rattle.placing.specs.Slots.{at_slot, is_void}
use Rattle.items.specs.Items.{Reading, header_at, replaces, cell_reps_from, net_reps_from, finish_at}
use Rattle.placing.specs.Cells.{cells_of}
use Rattle.voids.specs.Voids.{voids_at}
use Rattle.design_list.specs.declared.Extent.{Extent}

-- A refusal, or a design with the places of its replacements.
pub data Read : Type 0 where
  refused : Fault → Read
  accepted : Design → ℕ → ℕ → Read

-- The list says nothing of the mode, which is the caller's.
module _ (mode : Mode) where
  -- The net replacements, words left over, and then fault 10.
  unfoldable pub read_net_reps : List ℕ → Header → List Placed → List Placed → ℕ → ℕ → Read
  read_net_reps w h cells cell_reps cell_reps_at net_reps_at =
      let pairs : Reading NetPair = net_reps_from w (h.base + h.added) h.netreps 0 net_reps_at in
      on_read pairs.scan refused (λ (next : ℕ).
      on_read (finish_at w next) refused (λ (_ : ℕ).
      on_read (voids_at w (is_void cells h.base) (length cells) h.cellreps h.netreps) refused (λ (_ : ℕ).
      let d : Design = record {
        mode = mode;
        base = h.base;
        added = h.added;
        cells = cells;
        cell_reps = cell_reps;
        net_reps = pairs.items;
      } in
      accepted d cell_reps_at net_reps_at)))

  -- The cell replacements.
  unfoldable pub read_cell_reps : List ℕ → Header → List Placed → ℕ → Read
  read_cell_reps w h cells cell_reps_at =
      let reps : Reading Placed =
      cell_reps_from w (h.base + h.added) (replaces (at_slot cells) h.base) h.cellreps 0 cell_reps_at in
      on_read reps.scan refused (λ (net_reps_at : ℕ). read_net_reps w h cells reps.items cell_reps_at net_reps_at)

  -- The cells.
  unfoldable pub read_cells : List ℕ → Header → Read
  read_cells w h =
      let cells : Reading Placed = cells_of w h.base (h.base + h.added) in
      on_read cells.scan refused (λ (cell_reps_at : ℕ). read_cell_reps w h cells.items cell_reps_at)

  -- The whole list: at most 16,384 words, at least the four of the header.
  unfoldable pub read : List ℕ → Read
  read w =
      cond (ltb 16384 (length w)) (refused (fault 4 16384))
      (cond (ltb (length w) 4) (refused (fault 1 (length w)))
      (on_read (header_at w) refused (read_cells w)))

-- What the reader answers: the fault, or the counts and the places of the replacements.
abbrev pub answer : Read → Result Extent Fault
answer (refused e) = Err e
answer (accepted d cell_reps_at net_reps_at) = Ok record {
  base = d.base;
  added = d.added;
  cells = length d.cells;
  cellreps = length d.cell_reps;
  netreps = length d.net_reps;
  replacements = cell_reps_at;
  pairs = net_reps_at;
}

-- Document 01's number of an answer, 0 where the list is accepted, and its value: the place of the fault, or base +
-- added.
abbrev pub number_of : Result Extent Fault → ℕ
number_of (Ok x) = 0
number_of (Err e) = e.number

abbrev pub value_of : Result Extent Fault → ℕ
value_of (Ok x) = x.base + x.added
value_of (Err e) = e.place

-- The same of what was read.
abbrev pub read_number : Read → ℕ
read_number (accepted d cell_reps_at net_reps_at) = 0
read_number (refused e) = e.number

abbrev pub read_value : Read → ℕ
read_value (accepted d cell_reps_at net_reps_at) = total d
read_value (refused e) = e.place

-- What the reader promises of its answer.
pub record Answered (r : Read) (a : Result Extent Fault) : Type 0 where
  pub same : a ≡ answer r
  pub number : number_of a ≡ read_number r
  pub value : value_of a ≡ read_value r
