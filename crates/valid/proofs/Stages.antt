-- The stages of the reader, on the words of a valid design: header, cells, cell replacements, net replacements, second
-- pass.
use mathlib.Core.Path.{◌≡◌}
use mathlib.Core.List.{List, ◌++◌}
use Prim.Native.Nat.{ℕ, ◌+◌, ◌-◌, ◌≤◌}
use native.Mathlib.Omega.{arith}
use lib.ListN.{length, length-append}
use borrow.Author.Tests.{le-ltb, eq-eqb}
use Rattle.std.specs.Prelude.{Ok}
use Rattle.cell.specs.Design.{Placed, NetPair, Design, total}
use Rattle.cell.specs.Each.{Each}
use Rattle.right.specs.Voids.{nets_beside_clock}
use Rattle.right.specs.Valid.{Valid}
use Rattle.items.specs.declared.Header.{Header}
use Rattle.placing.specs.Slots.{at_slot}
use Rattle.items.specs.Items.{counts_at, header_at, replaces, cell_reps_from, net_reps_from, finish_at}
use Rattle.placing.specs.Cells.{cells_of}
use Rattle.voids.specs.Voids.{record_voids_at, replacement_voids_at, pair_voids_at, voids_at}
use Rattle.design_list.specs.Read.{Read, accepted, read_net_reps, read_cell_reps, read_cells, read}
use Rattle.valid.specs.Words.{cell_words_of, replacement_words_of, pair_words_of, words_of_cells, words_of_replacements}
use Rattle.valid.specs.Words.{words_of_pairs, words_of, replacements_at, pairs_at}
use Rattle.valid.proofs.Stands.{Stands, stands_first, stands_rest, stands_tail, scan-items}
use Rattle.valid.proofs.Fields.{number-right, each_all}
use Rattle.valid.proofs.Placing.{read_to, cells_right}
use Rattle.valid.proofs.Replacements.{replacements-right, pairs-right}
use Rattle.valid.proofs.Voids.{voids, Readable, record_voids, replacement-voids, pair-voids}
use Rattle.valid.proofs.Tested.{cells_are_right, replacements_are_right, cells_readable, replacements_readable}
use Rattle.valid.proofs.Tested.{pairs_readable}

-- The header of a design.
abbrev header_of : Design → Header
header_of d = record { base = d.base; added = d.added; cellreps = length d.cell_reps; netreps = length d.net_reps }

module _
    (w : List ℕ) (d : Design) (valid : Valid d) (short : length w ≤ 16384) (s : Stands w (length w) 0 (words_of d)) where
  header-right : header_at w ≡ Ok (header_of d)
  unfolding header_at counts_at
  header-right =
      let slots = valid.slots in
      let few-cells = valid.few-cells in
      let few-nets = valid.few-nets in
      rw (
        number-right w 4096 4 0 d.base (omega arith) s.reads.0 (omega arith) (omega arith),
        number-right w (4096 - d.base) 4 1 d.added (omega arith) s.reads.1.0 (omega arith) (omega arith),
        number-right w 4096 4 2 (length d.cell_reps) (omega arith) s.reads.1.1.0 (omega arith) few-cells,
        number-right w 4096 4 3 (length d.net_reps) (omega arith) s.reads.1.1.1.0 (omega arith) few-nets,
      )

  after-header : Stands w (length w) 4 (words_of_cells d ++ (words_of_replacements d ++ words_of_pairs d))
  after-header = stands_tail (stands_tail (stands_tail (stands_tail s)))

  cells_stand : Stands w (length w) 4 (words_of_cells d)
  cells_stand = stands_first (words_of_cells d) (words_of_replacements d ++ words_of_pairs d) after-header

  after-cells : Stands w (length w) (replacements_at d) (words_of_replacements d ++ words_of_pairs d)
  after-cells = stands_rest (words_of_cells d) (words_of_replacements d ++ words_of_pairs d) after-header

  replacements_stand : Stands w (length w) (replacements_at d) (words_of_replacements d)
  replacements_stand = stands_first (words_of_replacements d) (words_of_pairs d) after-cells

  pairs_stand : Stands w (length w) (pairs_at d) (words_of_pairs d)
  pairs_stand = stands_rest (words_of_replacements d) (words_of_pairs d) after-cells

  cells-read : cells_of w d.base (total d) ≡ read_to d.cells (replacements_at d)
  unfolding cells_of
  cells-read =
      cells_right w d.base (total d) valid.slots short d.cells (total d) 0 4 valid.laid.run (omega arith)
      valid.laid.apart (cells_are_right d valid) cells_stand

  replacements-read :
      cell_reps_from w (total d) (replaces (at_slot d.cells) d.base) (length d.cell_reps) 0 (replacements_at d)
      ≡ read_to d.cell_reps (pairs_at d)
  replacements-read =
      replacements-right w (total d) valid.slots short (replaces (at_slot d.cells) d.base) d.cell_reps 0
      (replacements_at d) replacements_stand (replacements_are_right d valid)
      (each_all _ (λ p. omega arith) d.cell_reps) valid.laid.slots

  pairs-read :
      net_reps_from w (total d) (length d.net_reps) 0 (pairs_at d)
      ≡ read_to d.net_reps (pairs_at d + length (words_of_pairs d))
  pairs-read =
      pairs-right w d valid.slots d.net_reps 0 (pairs_at d) pairs_stand valid.laid.nets
      (each_all _ (λ p. omega arith) d.net_reps) valid.laid.froms

  -- The second pass.
  voids-read :
      voids_at w (voids d) (length d.cells) (length d.cell_reps) (length d.net_reps)
      ≡ Ok (pairs_at d + length (words_of_pairs d))
  unfolding voids_at
  voids-read =
      rw (
        scan-items w (length w) (record_voids_at w (voids d)) cell_words_of
            (λ (p : Placed). Each (Readable d) (nets_beside_clock p.cell))
            (λ at p. record_voids d valid.slots valid.laid.run w short at p.cell)
            d.cells 4 cells_stand (cells_readable d valid),
        scan-items w (length w) (replacement_voids_at w (voids d)) replacement_words_of
            (λ (p : Placed). Each (Readable d) (nets_beside_clock p.cell))
            (replacement-voids d valid.slots valid.laid.run w short)
            d.cell_reps (replacements_at d) replacements_stand (replacements_readable d valid),
      )
      (scan-items w (length w) (pair_voids_at w (voids d)) pair_words_of (λ (p : NetPair). Readable d p.to)
      (pair-voids d valid.slots valid.laid.run w short)
      d.net_reps (pairs_at d) pairs_stand (pairs_readable d valid))

  finish_right :
      length w ≡ length (words_of d) →
      finish_at w (pairs_at d + length (words_of_pairs d)) ≡ Ok (pairs_at d + length (words_of_pairs d))
  unfolding finish_at
  finish_right same =
      rw (eq-eqb (pairs_at d + length (words_of_pairs d)) (length w)
      (omega (
        arith,
        length-append (words_of_cells d) (words_of_replacements d ++ words_of_pairs d),
        length-append (words_of_replacements d) (words_of_pairs d),
      )))

  pub stands_read : length w ≡ length (words_of d) → read d.mode w ≡ accepted d (replacements_at d) (pairs_at d)
  unfolding read read_cells read_cell_reps read_net_reps
  stands_read same =
      rw (
        le-ltb 16384 (length w) short,
        le-ltb (length w) 4 (omega arith),
        header-right,
        cells-read,
        replacements-read,
        pairs-read,
        finish_right same,
        voids-read,
      )
