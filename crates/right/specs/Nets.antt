-- Document 01, fault 6: the nets that a cell names, and which of them are nets of the design.
use Rattle.std.specs.Prelude.{List, [], ◌∷◌, ◌++◌, ℕ, ◌<◌}
use Rattle.logic.specs.Net.{Net, constant, slot}
use Rattle.cell.specs.Cell.{Cell}
use Rattle.cell.specs.Cell as c

-- The nets that a cell names, in the order of its words.
abbrev pub nets_of : Cell → List Net
nets_of c.void = []
nets_of c.note = []
nets_of (c.input n) = []
nets_of (c.io_buf n) = []
nets_of (c.unary op a) = a
nets_of (c.binary op a b) = a ++ b
nets_of (c.mux s a b) = s ∷ (a ++ b)
nets_of (c.adc a b carry) = a ++ (b ++ (carry ∷ []))
nets_of (c.aig a b) = a.net ∷ b.net ∷ []
nets_of (c.shift op value amount stride) = value ++ amount
nets_of (c.match value enable patterns) = enable ∷ value
nets_of (c.assign value enable update offset) = enable ∷ (value ++ update)
nets_of (c.dff f) = f.clock.net ∷ f.clear.net ∷ f.reset.net ∷ f.enable.net ∷ f.dat

-- A net word's slot is below base + added.
abbrev pub Within : ℕ → Net → Type 0
Within n (constant t) = Unit {0}
Within n (slot i) = i < n
