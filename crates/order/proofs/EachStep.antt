-- What holds of every kind of step holds of all steps of a design.
use mathlib.Core.Bool.{Bool, true, false, cond}
use mathlib.Core.Option.{Option, none, some}
use mathlib.Core.List.{List, [], ◌∷◌}
use Prim.Native.Nat.{ℕ}
use lib.Dec.{eqb}
use Rattle.logic.specs.Net.{Net}
use Rattle.cell.specs.declared.Mode.{Mode}
use Rattle.cell.specs.Mode.{ported_only}
use Rattle.cell.specs.Cell.{Cell, output_len}
use Rattle.cell.specs.Design.{Design, Placed, NetPair}
use Rattle.cell.specs.Each.{Each}
use Rattle.cell.proofs.EachLaws.{each_append, each_ported}
use Rattle.working_out.specs.Reading.{reads_past, Pair, equal, of_void, of_dffs, ordinary, pair_of}
use Rattle.smt.specs.Builder.{curr_value, output_nets}
use Rattle.order.specs.Verify.{Step, declared, asserted, obliged, is_input, claim, add_cell, new_cell, replace_net}
use Rattle.order.specs.Verify.{replace_void_net, join_pasts, currents, new_cell_in, with_new, cell_steps, pair_steps}
use Rattle.order.specs.Verify.{replace_dff_net, each_cell, each_pair, steps}

pub record OfEachKind (P : Step → Type 0) (rp : ℕ → Bool) : Type 0 where
  pub input : (s w : ℕ) → P (declared (curr_value (output_nets s w)))
  pub cell : (s w : ℕ) (a : Cell) → P (asserted (claim rp s w a))
  pub new : (s w : ℕ) (a : Cell) → P (obliged (new_cell rp s w a))
  pub void : (from to : Net) → P (asserted (replace_void_net rp from to))
  pub pasts : (from to : Net) → P (asserted (join_pasts from to))
  pub currents : (from to : Net) → P (obliged (currents from to))
  pub net : (from to : Net) → P (obliged (replace_net rp from to))

module _ (P : Step → Type 0) (d : Design) (of : OfEachKind P (reads_past d)) where
  of_cell_lem : (p : Placed) → Each P (cell_steps d p)
  of_cell_lem p = go (eqb (output_len p.cell) 0)
    where
      w : ℕ
      w = output_len p.cell

      add : (i : Bool) → P (cond i (declared (curr_value (output_nets p.slot (output_len p.cell))))
          (asserted (claim (reads_past d) p.slot (output_len p.cell) p.cell)))
      add true = of.input p.slot w
      add false = of.cell p.slot w p.cell

      new : (o : Option Cell) → Each P (with_new (reads_past d) p.slot (output_len p.cell) o)
      new none = tt
      new (some a) = (of.new p.slot w a, tt)

      go : (z : Bool) → Each P (cond z [] (add_cell (reads_past d) p.slot (output_len p.cell) p.cell
          ∷ with_new (reads_past d) p.slot (output_len p.cell) (new_cell_in d.cell_reps p.slot)))
      go true = tt
      go false = (add (is_input p.cell), new (new_cell_in d.cell_reps p.slot))

  of_net_lem : (p : NetPair) → Each P (obliged (replace_net (reads_past d) p.from p.to) ∷ [])
  of_net_lem p = (of.net p.from p.to, tt)

  of_pair_lem : (mode : Mode) (k : Pair) (p : NetPair) → Each P (pair_steps (reads_past d) mode k p)
  of_pair_lem mode equal p = tt
  of_pair_lem mode of_void p = (of.void p.from p.to, tt)
  of_pair_lem mode of_dffs p =
      each_append P (replace_dff_net p.from p.to)
      (ported_only mode (obliged (replace_net (reads_past d) p.from p.to) ∷ []))
      (of.pasts p.from p.to, (of.currents p.from p.to, tt))
      (each_ported P mode (obliged (replace_net (reads_past d) p.from p.to) ∷ []) (of_net_lem p))
  of_pair_lem mode ordinary p = of_net_lem p

  of_cells : (cells : List Placed) → Each P (each_cell d cells)
  unfolding each_cell
  of_cells [] = tt
  of_cells (p ∷ cells) = each_append P (cell_steps d p) (each_cell d cells) (of_cell_lem p) (of_cells cells)

  of_pairs : (pairs : List NetPair) → Each P (each_pair d pairs)
  unfolding each_pair
  of_pairs [] = tt
  of_pairs (p ∷ pairs) =
      each_append P (pair_steps (reads_past d) d.mode (pair_of d p) p) (each_pair d pairs)
      (of_pair_lem d.mode (pair_of d p) p) (of_pairs pairs)

  pub each_step : Each P (steps d)
  each_step =
      each_append P (each_cell d d.cells) (each_pair d d.net_reps) (of_cells d.cells) (of_pairs d.net_reps)
