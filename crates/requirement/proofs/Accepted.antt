-- What is known of the design of an accepted list: its layout, its bounds, and its size.
use Prim.Native.Nat.{◌≤◌}
use Rattle.cell.specs.Design.{Design, total}
use Rattle.right.specs.Bounds.{Bounds}
use Rattle.right.specs.Laid.{Laid}
use Rattle.bound.specs.Words.{design_words}

pub record Accepted (d : Design) : Type 0 where
  pub laid : Laid d
  pub bounds : Bounds d
  -- base + added ≤ 4,096; list ≤ 16,384 words
  pub slots : total d ≤ 4096
  pub words : design_words d ≤ 16384
