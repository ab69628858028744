-- The bounds of a cell, in the numbers of its fields. Assumes nothing.
use mathlib.Core.List.{List}
use Prim.Native.Nat.{ℕ, ◌+◌, ◌≤◌}
use lib.ListN.{length}
use Rattle.logic.proofs.TableLaws.{length-tab}
use Rattle.cell.specs.declared.Operation.TheVariants as O
use Rattle.right.specs.Shape.{Shaped}
use Rattle.cell_reader.specs.Parse.{number_in, nets_in, cell_in}

module _ (w : List ℕ) where
  -- A bound of some nets from a place on is one of their count.
  pub few : (n at most : ℕ) → length (nets_in w n at) ≤ most → n ≤ most
  few n at most b = rw (length-tab n _) at b

  pub update_within : Shaped (cell_in w O.Assign 0) → number_in w 2 + number_in w 1 ≤ number_in w 0
  update_within s = rw (length-tab (number_in w 1) _, length-tab (number_in w 0) _) at s
