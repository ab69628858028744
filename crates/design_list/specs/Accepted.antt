-- Document 01, "Words": a design list. What is known of an accepted list: every stage of `read` met no fault, and the
-- design is what the stages read, in the mode that was chosen.
use Rattle.std.specs.Prelude.{ℕ, ◌≤◌, ◌≡◌, List, length, Ok}
use Rattle.cell.specs.Design.{Design, total}
use Rattle.cell.specs.declared.Mode.{Mode}
use Rattle.items.specs.declared.Header.{Header}
use Rattle.placing.specs.Slots.{at_slot, is_void}
use Rattle.items.specs.Items.{header_at, replaces, cell_reps_from, net_reps_from}
use Rattle.placing.specs.Cells.{cells_of}
use Rattle.voids.specs.Voids.{voids_at}
use Rattle.design_list.specs.Read.{Read}
use Rattle.items.proofs.Laws.{header_read}

pub record IsAccepted (mode : Mode) (w : List ℕ) (d : Design) (replacements pairs : ℕ) : Type 0 where
  pub header : Header
  pub end : ℕ
  pub last : ℕ
  pub short : length w ≤ 16384
  pub long : 4 ≤ length w
  pub low : total d ≤ 4096
  pub header_read : header_at w ≡ Ok header
  pub same-mode : d.mode ≡ mode
  pub same_base : d.base ≡ header.base
  pub same-added : d.added ≡ header.added
  pub cells-read : (cells_of w d.base (total d)).scan ≡ Ok replacements
  pub cells_are : d.cells ≡ (cells_of w d.base (total d)).items
  pub reps_read :
      (cell_reps_from w (total d) (replaces (at_slot d.cells) d.base) header.cellreps 0 replacements).scan
      ≡ Ok pairs
  pub reps_are : d.cell_reps
      ≡ (cell_reps_from w (total d) (replaces (at_slot d.cells) d.base) header.cellreps 0 replacements).items
  pub pairs-read : (net_reps_from w (total d) header.netreps 0 pairs).scan ≡ Ok end
  pub pairs_are : d.net_reps ≡ (net_reps_from w (total d) header.netreps 0 pairs).items
  pub ended : end ≡ length w
  pub voids-read : voids_at w (is_void d.cells d.base) (length d.cells) header.cellreps header.netreps
      ≡ Ok last
