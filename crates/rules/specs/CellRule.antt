-- Document 01, "Reading nets" and "Cell rules": the trits that a cell's rule gives, of the trits that its nets read.
use mathlib.Core.Bool.{Bool, true, false, cond}
use Rattle.std.specs.Prelude.{List, [], ◌∷◌, map, ℕ, ◌+◌}
use Rattle.logic.specs.Table.{tab}
use Rattle.logic.specs.Net.{Net, constant, slot}
use Rattle.logic.specs.declared.Trit.{Trit}
use Rattle.logic.specs.declared.Trit.TheVariants.{Zero, One, Undef}
use Rattle.cell.specs.Cell.{Cell, Control, FlipFlop}
use Rattle.cell.specs.Cell as c
use Rattle.rules.specs.Trits as t
use Rattle.rules.specs.Rules as r

-- The current and the past trit of every slot.
pub record Trits : Type 0 where
  pub now : ℕ → Trit
  pub was : ℕ → Trit

-- A constant is itself.
abbrev pub of_net : (ℕ → Trit) → Net → Trit
of_net f (constant u) = u
of_net f (slot i) = f i

-- The trit of a slot as read: a slot of a base Dff reads its past trit, every other slot its current one.
abbrev pub as_read : (ℕ → Bool) → Trits → ℕ → Trit
as_read reads_past θ i = cond (reads_past i) (θ.was i) (θ.now i)

-- An inverted word reads as its Not.
abbrev pub control : (Net → Trit) → Control → Trit
control f w = cond w.inverted (t.not (f w.net)) (f w.net)

-- Clear is constantly inactive where it is constant 0, or inverted constant 1 (`has_clear`).
abbrev pub inactive : Bool → Net → Bool
inactive false (constant Zero) = true
inactive false (constant One) = false
inactive false (constant Undef) = false
inactive true (constant One) = true
inactive true (constant Zero) = false
inactive true (constant Undef) = false
inactive inverted (slot i) = false

abbrev pub has_clear : FlipFlop → Bool
has_clear f = mathlib.Core.Bool.not (inactive f.clear.inverted f.clear.net)

-- The slots of a cell's output, of its first slot and its width.
abbrev pub outputs : ℕ → ℕ → List ℕ
outputs s w = tab w (λ i. s + i)

module _ (reads_past : ℕ → Bool) (θ : Trits) where
  abbrev pub read : Net → Trit
  read = of_net (as_read reads_past θ)

  -- A Dff's clock reads both: its edge is the And of now active and the Not of active before.
  abbrev pub edge : Control → Trit
  edge w = t.and (control (of_net θ.now) w) (t.not (control (of_net θ.was) w))

  -- What a Dff's rule is given; its own output reads past.
  abbrev pub flip_flop_inputs : FlipFlop → List ℕ → r.FlipFlopInputs
  flip_flop_inputs f out = record {
    edge = edge f.clock;
    clear = control read f.clear;
    reset = control read f.reset;
    enable = control read f.enable;
    has_clear = has_clear f;
    reset_over_enable = f.reset_over_enable;
    dat = map read f.dat;
    clear_value = f.clear_value;
    reset_value = f.reset_value;
    past = map θ.was out;
  }

  -- The rule of a cell with the output slots `out`. An Input, a Void and a Note have none; an IoBuf, as a replacement's
  -- new cell, shows the slots as read.
  abbrev pub cell_rule : List ℕ → Cell → List Trit
  cell_rule out c.void = []
  cell_rule out c.note = []
  cell_rule out (c.input n) = []
  cell_rule out (c.io_buf n) = map (as_read reads_past θ) out
  cell_rule out (c.unary op a) = r.unary op (map read a)
  cell_rule out (c.binary op a b) = r.binary op (map read a) (map read b)
  cell_rule out (c.mux s a b) = r.mux (read s) (map read a) (map read b)
  cell_rule out (c.adc a b carry) = r.adc (map read a) (map read b) (read carry)
  cell_rule out (c.aig a b) = t.and (control read a) (control read b) ∷ []
  cell_rule out (c.shift op value amount stride) = r.shift op (map read value) (map read amount) stride
  cell_rule out (c.match value enable patterns) = r.match (map read value) (read enable) patterns
  cell_rule out (c.assign value enable update offset) = r.assign (map read value) (read enable) (map read update) offset
  cell_rule out (c.dff f) = r.dff (flip_flop_inputs f out)
