-- Laws of the definitions of CellRule: how many trits the rule of an accepted cell gives.
use mathlib.Core.Path.{◌≡◌, refl, ◌∙◌}
use mathlib.Core.Bool.{Bool}
use mathlib.Core.List.{List, map}
use Prim.Native.Nat.{ℕ}
use lib.ListN.{length, length-map}
use Rattle.logic.specs.Net.{Net}
use Rattle.logic.specs.declared.Trit.{Trit}
use Rattle.cell.specs.Cell.{Cell, FlipFlop, output_len}
use Rattle.cell.specs.Cell as c
use Rattle.right.specs.Shape.{Shaped}
use Rattle.rules.specs.Rules as r
use Rattle.rules.specs.CellRule.{Trits, read, as_read, flip_flop_inputs, cell_rule}
use Rattle.rules.proofs.WidthLaws.{Width, InputsWidth, cond-width, mux-width, clocked-width}
use Rattle.rules.proofs.WidthLaws.{unary-width, binary-width, adc-width, shift-width, match-width, assign-width}

-- ---- The rule of an accepted cell gives a trit for each of its output slots; an Input has none.
map-width : {A : Type 0} (f : A → Trit) (a : List A) (n : ℕ) → length a ≡ n → Width n (map f a)
map-width f a n e = record { is = length-map a f ∙ e }

dff-width : (n : ℕ) (f : r.FlipFlopInputs) → InputsWidth n f → Width n (r.dff f)
dff-width n f w =
    cond-width f.has_clear (mux-width f.clear w.clear_value (clocked-width n f w)) (clocked-width n f w)

module _ (reads_past : ℕ → Bool) (θ : Trits) where
  vector : (a : List Net) (n : ℕ) → length a ≡ n → Width n (map (read reads_past θ) a)
  vector = map-width (read reads_past θ)

  inputs_width : (f : FlipFlop) (out : List ℕ) → Shaped (c.dff f) → length out ≡ length f.dat
      → InputsWidth (length f.dat) (flip_flop_inputs reads_past θ f out)
  inputs_width f out s e = record {
    dat = vector f.dat (length f.dat) refl;
    clear_value = record { is = s.0 };
    reset_value = record { is = s.1 };
    past = map-width θ.was out (length f.dat) e;
  }

  cell_rule-width : (out : List ℕ) (cell : Cell) → Shaped cell → ((n : ℕ) → cell ≡ c.input n → ⊥)
      → length out ≡ output_len cell → Width (output_len cell) (cell_rule reads_past θ out cell)
  cell_rule-width out c.void s ruled e = record { is = refl }
  cell_rule-width out c.note s ruled e = record { is = refl }
  cell_rule-width out (c.input n) s ruled e = absurd (ruled n refl)
  cell_rule-width out (c.io_buf n) s ruled e = map-width (as_read reads_past θ) out n e
  cell_rule-width out (c.unary op a) s ruled e = unary-width op (vector a (length a) refl)
  cell_rule-width out (c.binary op a b) s ruled e =
      binary-width op (vector a (length a) refl) (vector b (length a) s.0)
  cell_rule-width out (c.mux sel a b) s ruled e =
      mux-width (read reads_past θ sel) (vector a (length a) refl) (vector b (length a) s)
  cell_rule-width out (c.adc a b carry) s ruled e =
      adc-width (vector a (length a) refl) (map (read reads_past θ) b) (read reads_past θ carry)
  cell_rule-width out (c.aig a b) s ruled e = record { is = refl }
  cell_rule-width out (c.shift op value amount stride) s ruled e =
      shift-width op (vector value (length value) refl) _ stride
  cell_rule-width out (c.match value enable patterns) s ruled e = match-width _ (read reads_past θ enable) patterns
  cell_rule-width out (c.assign value enable update offset) s ruled e =
      assign-width (vector value (length value) refl) (read reads_past θ enable) (map (read reads_past θ) update) offset
      (rw (length-map update (read reads_past θ)) s)
  cell_rule-width out (c.dff f) s ruled e =
      dff-width (length f.dat) (flip_flop_inputs reads_past θ f out) (inputs_width f out s e)

  pub cell_rule-length : (out : List ℕ) (cell : Cell) → Shaped cell → ((n : ℕ) → cell ≡ c.input n → ⊥)
      → length out ≡ output_len cell → length (cell_rule reads_past θ out cell) ≡ output_len cell
  cell_rule-length out cell s ruled e = (cell_rule-width out cell s ruled e).is
