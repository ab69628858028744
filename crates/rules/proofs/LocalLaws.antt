-- Laws of the definitions of Local.
use mathlib.Core.Path.{◌≡◌, refl, sym}
use mathlib.Core.Bool.{Bool, true, false, cond}
use mathlib.Core.List.{List, [], ◌∷◌, ◌++◌, map}
use mathlib.Core.List.Memᴰ
use mathlib.Core.List.{Memᴰ}
use Prim.Native.Nat.{ℕ}
use Rattle.logic.specs.Net.{Net, constant, slot}
use Rattle.logic.specs.declared.Trit.{Trit}
use Rattle.cell.specs.Cell.{Cell, Control, FlipFlop}
use Rattle.cell.specs.Cell as c
use Rattle.rules.specs.CellRule as rule
use Rattle.rules.specs.CellRule.{Trits, of_net, as_read, control, flip_flop_inputs, cell_rule}
use Rattle.rules.specs.Reads.{current_net, current_nets, clock_now, compared_nets, current_reads}
use Rattle.rules.specs.Refine.{Refines, Refine, empty, both}
use Rattle.rules.proofs.RefineLaws.{refines-same}
use Rattle.rules.proofs.RefineLaws.{refine_same, refine_values, refine_antisym}
use Rattle.rules.proofs.Monotone as m
use Rattle.rules.specs.Local.{RefinesOn}

control-monotone : (g g' : Net → Trit) (w : Control) → Refines (g w.net) (g' w.net)
    → Refines (control g w) (control g' w)
control-monotone g g' w h = go w.inverted
  where
    word : Bool → Control
    word b = record { net = w.net; inverted = b }

    go : (b : Bool) → Refines (control g (word b)) (control g' (word b))
    go true = m.not-monotone (g w.net) (g' w.net) h
    go false = h

module _ (reads_past : ℕ → Bool) (θ θ' : Trits) where
  abbrev On : List ℕ → Type 0
  On slots = RefinesOn slots θ θ'

  abbrev read : Net → Trit
  read = rule.read reads_past θ

  abbrev read' : Net → Trit
  read' = rule.read reads_past θ'

  -- The parts of a list of reads.
  first : (a b : List ℕ) → On (a ++ b) → On a
  first a b h = record { now = λ i m. h.now i (Memᴰ.append_left b m); was = h.was }

  second : (a b : List ℕ) → On (a ++ b) → On b
  second a b h = record { now = λ i m. h.now i (Memᴰ.append_right a m); was = h.was }

  net-monotone : (n : Net) → On (current_net reads_past n) → Refines (read n) (read' n)
  net-monotone (constant u) h = refines-same u
  net-monotone (slot i) h = go (reads_past i) h.now
    where
      go : (past : Bool) → ((j : ℕ) → Memᴰ j (cond past [] (i ∷ [])) → Refines (θ.now j) (θ'.now j))
          → Refines (cond past (θ.was i) (θ.now i)) (cond past (θ'.was i) (θ'.now i))
      go true now = h.was i
      go false now = now i (Memᴰ.head refl)

  nets-monotone : (nets : List Net) → On (current_nets reads_past nets) → (n : Net) → Memᴰ n nets
      → Refines (read n) (read' n)
  unfolding current_nets
  nets-monotone [] h n x'' = elim x'' [ ]
  nets-monotone (a ∷ nets) h n (Memᴰ.head e) = rw e (net-monotone a (first _ _ h))
  nets-monotone (a ∷ nets) h n (Memᴰ.tail m) = nets-monotone nets (second (current_net reads_past a) _ h) n m

  vector-monotone : (nets : List Net) → On (current_nets reads_past nets) → Refine (map read nets) (map read' nets)
  unfolding current_nets
  vector-monotone [] h = empty
  vector-monotone (a ∷ nets) h =
      both (net-monotone a (first _ _ h)) (vector-monotone nets (second (current_net reads_past a) _ h))

  control-read : (w : Control) → On (current_net reads_past w.net) → Refines (control read w) (control read' w)
  control-read w h = control-monotone read read' w (net-monotone w.net h)

  edge-monotone : (w : Control) → On (clock_now w.net) → Refines (rule.edge reads_past θ w) (rule.edge reads_past θ' w)
  edge-monotone w h =
      m.and-monotone (control (of_net θ.now) w) (control (of_net θ'.now) w) _ _
      (control-monotone (of_net θ.now) (of_net θ'.now) w (now w.net h.now))
      (m.not-monotone (control (of_net θ.was) w) (control (of_net θ'.was) w)
      (control-monotone (of_net θ.was) (of_net θ'.was) w (was w.net)))
    where
      now : (n : Net) → ((i : ℕ) → Memᴰ i (clock_now n) → Refines (θ.now i) (θ'.now i))
          → Refines (of_net θ.now n) (of_net θ'.now n)
      now (constant u) g = refines-same u
      now (slot i) g = g i (Memᴰ.head refl)

      was : (n : Net) → Refines (of_net θ.was n) (of_net θ'.was n)
      was (constant u) = refines-same u
      was (slot i) = h.was i

  inputs_monotone : (f : FlipFlop) (out : List ℕ) → On (current_reads reads_past (c.dff f))
      → m.InputsRefine (flip_flop_inputs reads_past θ f out) (flip_flop_inputs reads_past θ' f out)
  inputs_monotone f out h =
      let from-clear = second (clock_now f.clock.net) _ h in
      let from-reset = second (current_net reads_past f.clear.net) _ from-clear in
      let from-enable = second (current_net reads_past f.reset.net) _ from-reset in
      record {
        edge = edge-monotone f.clock (first _ _ h);
        clear = control-read f.clear (first _ _ from-clear);
        reset = control-read f.reset (first _ _ from-reset);
        enable = control-read f.enable (first _ _ from-enable);
        dat = vector-monotone f.dat (second (current_net reads_past f.enable.net) _ from-enable);
        past = refine_values θ.was θ'.was h.was out;
        clear_value = refine_same f.clear_value;
        reset_value = refine_same f.reset_value;
        has_clear = refl;
        reset_over_enable = refl;
      }

  -- Turning Xs into 0 or 1 in what a cell reads changes no defined trit of its output.
  pub cell_rule-monotone : (out : List ℕ) (cell : Cell) → RefinesOn (current_reads reads_past cell) θ θ'
      → ((n : ℕ) → cell ≡ c.io_buf n → (i : ℕ) → Refines (θ.now i) (θ'.now i))
      → Refine (cell_rule reads_past θ out cell) (cell_rule reads_past θ' out cell)
  cell_rule-monotone out c.void h io = empty
  cell_rule-monotone out c.note h io = empty
  cell_rule-monotone out (c.input n) h io = empty
  cell_rule-monotone out (c.io_buf n) h io =
      refine_values (as_read reads_past θ) (as_read reads_past θ')
      (λ i. net-monotone (slot i) (record { now = λ j m. io n refl j; was = h.was })) out
  cell_rule-monotone out (c.unary op a) h io = m.unary-monotone op (vector-monotone a h)
  cell_rule-monotone out (c.binary op a b) h io =
      m.binary-monotone op (vector-monotone a (first _ _ h)) (vector-monotone b (second (current_nets reads_past a) _ h))
  cell_rule-monotone out (c.mux s a b) h io =
      let sides = second (current_net reads_past s) _ h in
      m.mux-monotone (read s) (read' s) (net-monotone s (first _ _ h))
      (vector-monotone a (first _ _ sides)) (vector-monotone b (second (current_nets reads_past a) _ sides))
  cell_rule-monotone out (c.adc a b carry) h io =
      let rest = second (current_nets reads_past a) _ h in
      m.adc-monotone (vector-monotone a (first _ _ h)) (vector-monotone b (first _ _ rest))
      (read carry) (read' carry) (net-monotone carry (second (current_nets reads_past b) _ rest))
  cell_rule-monotone out (c.aig a b) h io =
      both (m.and-monotone (control read a) (control read' a) (control read b) (control read' b)
      (control-read a (first _ _ h)) (control-read b (second (current_net reads_past a.net) _ h))) empty
  cell_rule-monotone out (c.shift op value amount stride) h io =
      m.shift-monotone op (vector-monotone value (first _ _ h))
      (vector-monotone amount (second (current_nets reads_past value) _ h)) stride
  cell_rule-monotone out (c.match value enable patterns) h io =
      m.match-monotone read read' value (read enable) (read' enable) patterns (net-monotone enable (first _ _ h))
      (nets-monotone (compared_nets value patterns) (second (current_net reads_past enable) _ h))
  cell_rule-monotone out (c.assign value enable update offset) h io =
      let vectors = second (current_net reads_past enable) _ h in
      m.assign-monotone (read enable) (read' enable) offset (vector-monotone value (first _ _ vectors))
      (net-monotone enable (first _ _ h)) (vector-monotone update (second (current_nets reads_past value) _ vectors))
  cell_rule-monotone out (c.dff f) h io =
      m.dff-monotone (flip_flop_inputs reads_past θ f out) (flip_flop_inputs reads_past θ' f out) (inputs_monotone f out h)

-- The same trits, now on the slots of a list, before on every slot.
pub record AgreeOn (slots : List ℕ) (θ θ' : Trits) : Type 0 where
  pub now : (i : ℕ) → Memᴰ i slots → θ.now i ≡ θ'.now i
  pub was : (i : ℕ) → θ.was i ≡ θ'.was i

-- A rule looks at nothing but past trits and the current trits of its current reads: to agree is to refine both ways.
module _ (reads_past : ℕ → Bool) (θ θ' : Trits) (out : List ℕ) (cell : Cell) where
  equal : {a b : Trit} → a ≡ b → Refines a b
  equal {b = b} e = rw e (refines-same b)

  pub cell_rule_local : AgreeOn (current_reads reads_past cell) θ θ'
      → ((n : ℕ) → cell ≡ c.io_buf n → (i : ℕ) → θ.now i ≡ θ'.now i)
      → cell_rule reads_past θ out cell ≡ cell_rule reads_past θ' out cell
  cell_rule_local h io =
      refine_antisym
      (cell_rule-monotone reads_past θ θ' out cell
      (record { now = λ i m. equal (h.now i m); was = λ i. equal (h.was i) })
      (λ n e i. equal (io n e i)))
      (cell_rule-monotone reads_past θ' θ out cell
      (record { now = λ i m. equal (sym (h.now i m)); was = λ i. equal (sym (h.was i)) })
      (λ n e i. equal (sym (io n e i))))
