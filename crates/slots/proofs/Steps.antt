-- The steps of the order of work, with the past reads that the table tells in place of the design's: by the one
-- equation `tells-past`. Assumes nothing.
use mathlib.Core.Path.{◌≡◌, sym, ap}
use mathlib.Core.Bool.{Bool, cond}
use mathlib.Core.List.{List, [], ◌∷◌}
use Prim.Native.Nat.{ℕ}
use lib.Dec.{eqb}
use Rattle.cell.specs.Cell.{output_len}
use Rattle.cell.specs.Design.{Design, Placed, NetPair}
use Rattle.working_out.specs.Reading.{reads_past, pair_of}
use Rattle.order.specs.Verify.{add_cell, new_cell_in, with_new, cell_steps, pair_steps}
use Rattle.nets.specs.Reads.{past_in}
use Rattle.slots.specs.Tells.{Tells}
use Rattle.slots.proofs.Laws.{tells-past}

module _ {d : Design} {table : List ℕ} (tells : Tells d table) where
  pub tells-cell-steps :
      (p : Placed) →
      cell_steps d p ≡
      cond (eqb (output_len p.cell) 0) []
      (add_cell (past_in table) p.slot (output_len p.cell) p.cell
      ∷ with_new (past_in table) p.slot (output_len p.cell) (new_cell_in d.cell_reps p.slot))
  tells-cell-steps p =
      ap
      (λ (past : ℕ → Bool).
      cond (eqb (output_len p.cell) 0) []
      (add_cell past p.slot (output_len p.cell) p.cell
      ∷ with_new past p.slot (output_len p.cell) (new_cell_in d.cell_reps p.slot)))
      (sym (tells-past tells))

  pub tells-pair-steps : (p : NetPair) → pair_steps (reads_past d) d.mode (pair_of d p) p
      ≡ pair_steps (past_in table) d.mode (pair_of d p) p
  tells-pair-steps p = ap (λ (past : ℕ → Bool). pair_steps past d.mode (pair_of d p) p) (sym (tells-past tells))
