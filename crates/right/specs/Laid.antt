-- Document 01, faults 11, 12 and 13: the cells cover the slots, and the replacements are right. With faults 6, 7 and 9
-- of every cell it is the layout on which reading nets and working out rely.
use Rattle.std.specs.Prelude.{◌≡◌, false, List, [], ◌∷◌, ℕ, ◌+◌, ◌≤◌, ◌<◌}
use Rattle.logic.specs.Net.{payload_of_net}
use Rattle.cell.specs.Cell.{Cell, output_len, slots_of}
use Rattle.cell.specs.Cell as c
use Rattle.cell.specs.Design.{Design, Placed, NetPair, total, cell_of}
use Rattle.cell.specs.Role.{role, is_void}
use Rattle.cell.specs.Each.{Each}
use Rattle.right.specs.Nets.{nets_of, Within}
use Rattle.right.specs.Shape.{Shaped}

-- ---- A cell of the design, or the new cell of a replacement (6, 7, 9).
pub record CellLaid (d : Design) (p : Placed) : Type 0 where
  pub shaped : Shaped p.cell
  pub within : Each (Within (total d)) (nets_of p.cell)

-- ---- Fault 11. The cells stand in slot order without a gap, from slot s up to slot e.
abbrev pub Run : ℕ → List Placed → ℕ → Type 0
Run s [] e = s ≡ e
Run s (p ∷ cells) e = (p.slot ≡ s) × Run (s + slots_of p.cell) cells e

-- No cell crosses the base's end.
abbrev pub Apart : Design → Placed → Type 0
Apart d p = p.slot < d.base → p.slot + slots_of p.cell ≤ d.base

-- ---- Fault 12. A new cell is no Void, Input or Note.
abbrev pub MayReplace : Cell → Type 0
MayReplace c.void = ⊥
MayReplace c.note = ⊥
MayReplace (c.input n) = ⊥
MayReplace (c.io_buf n) = Unit {0}
MayReplace (c.unary op a) = Unit {0}
MayReplace (c.binary op a b) = Unit {0}
MayReplace (c.mux s a b) = Unit {0}
MayReplace (c.adc a b carry) = Unit {0}
MayReplace (c.aig a b) = Unit {0}
MayReplace (c.shift op value amount stride) = Unit {0}
MayReplace (c.match value enable patterns) = Unit {0}
MayReplace (c.assign value enable update offset) = Unit {0}
MayReplace (c.dff f) = Unit {0}

-- A replaced slot heads a base cell that is no Void, of the new cell's output width.
pub record Replaces (d : Design) (p : Placed) : Type 0 where
  pub base : p.slot < d.base
  pub heads : (cell_of d p.slot).slot ≡ p.slot
  pub old : is_void (role (cell_of d p.slot).cell) ≡ false
  pub width : output_len p.cell ≡ output_len (cell_of d p.slot).cell
  pub new : MayReplace p.cell

-- ---- Faults 12 and 13. Strictly ascending by a number: replaced slots, and froms (0, 1, slots, X).
abbrev pub Ascending : {A : Type 0} → (A → ℕ) → List A → Type 0
Ascending key [] = Unit {0}
Ascending key (x ∷ l) = Each (λ y. key x < key y) l × Ascending key l

-- A net replacement's nets (6).
pub record PairWithin (d : Design) (p : NetPair) : Type 0 where
  pub from : Within (total d) p.from
  pub to : Within (total d) p.to

pub record Laid (d : Design) : Type 0 where
  pub run : Run 0 d.cells (total d)
  pub apart : Each (Apart d) d.cells
  pub cells : Each (CellLaid d) d.cells
  pub new_cells : Each (CellLaid d) d.cell_reps
  pub replaces : Each (Replaces d) d.cell_reps
  pub slots : Ascending (λ (p : Placed). p.slot) d.cell_reps
  pub nets : Each (PairWithin d) d.net_reps
  pub froms : Ascending (λ (p : NetPair). payload_of_net p.from) d.net_reps
