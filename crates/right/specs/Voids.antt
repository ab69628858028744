-- Document 01, fault 10: no net word other than a Dff clock or a replacement's from names a Void of the base.
use Rattle.std.specs.Prelude.{◌≡◌, false, List, ◌∷◌, ◌<◌}
use Rattle.logic.specs.Net.{Net, constant, slot}
use Rattle.cell.specs.Cell.{Cell}
use Rattle.cell.specs.Cell as C
use Rattle.cell.specs.Design.{Placed, NetPair, Design, cell_of}
use Rattle.cell.specs.Role.{role, is_void}
use Rattle.cell.specs.Each.{Each}
use Rattle.right.specs.Nets.{nets_of}

-- The nets that a cell names, but for a Dff's clock.
abbrev pub nets_beside_clock : Cell → List Net
nets_beside_clock C.void = nets_of C.void
nets_beside_clock C.note = nets_of C.note
nets_beside_clock (C.input n) = nets_of (C.input n)
nets_beside_clock (C.io_buf n) = nets_of (C.io_buf n)
nets_beside_clock (C.unary op a) = nets_of (C.unary op a)
nets_beside_clock (C.binary op a b) = nets_of (C.binary op a b)
nets_beside_clock (C.mux s a b) = nets_of (C.mux s a b)
nets_beside_clock (C.adc a b carry) = nets_of (C.adc a b carry)
nets_beside_clock (C.aig a b) = nets_of (C.aig a b)
nets_beside_clock (C.shift op value amount stride) = nets_of (C.shift op value amount stride)
nets_beside_clock (C.match value enable patterns) = nets_of (C.match value enable patterns)
nets_beside_clock (C.assign value enable update offset) = nets_of (C.assign value enable update offset)
nets_beside_clock (C.dff f) = f.clear.net ∷ f.reset.net ∷ f.enable.net ∷ f.dat

-- A net that names no Void of the base.
abbrev pub NoVoid : Design → Net → Type 0
NoVoid d (constant t) = Unit {0}
NoVoid d (slot i) = i < d.base → is_void (role (cell_of d i).cell) ≡ false

pub record VoidsUnread (d : Design) : Type 0 where
  pub cells : Each (λ (p : Placed). Each (NoVoid d) (nets_beside_clock p.cell)) d.cells
  pub new_cells : Each (λ (p : Placed). Each (NoVoid d) (nets_beside_clock p.cell)) d.cell_reps
  pub tos : Each (λ (p : NetPair). NoVoid d p.to) d.net_reps
