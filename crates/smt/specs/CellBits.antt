-- Document 01, "Modules", builder. The bits of a cell's terms, of the bits of the nets: for each operation the formula
-- that its calls spell.
use Rattle.std.specs.Prelude.{◌≡◌, Bool, true, false, not, cond, List, [], ◌∷◌, ◌++◌, map, ℕ, zero, suc, length, replicate}
use Rattle.logic.specs.Net.{Net, constant}
use Rattle.logic.specs.declared.Trit.{Trit}
use Rattle.logic.specs.declared.Trit.TheVariants.{Zero, One, Undef}
use Rattle.bitvec.specs.Bits.{nat2bv}
use Rattle.bitvec.specs.Ops.{bvmul}
use Rattle.engine.specs.Call as c
use Rattle.engine.specs.Call.{BinaryOp}
use Rattle.cell.specs.Cell.{Cell, Control, FlipFlop, Shift}
use Rattle.cell.specs.Cell as cells
use Rattle.smt.specs.Prog.{Age, curr, past, is_undef, is_one}
use Rattle.smt.specs.Builder.{output_nets, one_hot, overwritten, has_clear, shift_width, zext, extended, net}
use Rattle.smt.specs.Formula.{TritBits, tb, NetBits, bit_of, read_bits, lit_bits, concat_bits, extract_bits, not_bits}
use Rattle.smt.specs.Formula.{and_bits, or_bits, xor_bits, mux_bits, invert_bits, adc_bits, shift_bits, binary_bits}

-- ---- the bits

unfoldable pub first_bits : TritBits → ℕ → ℕ → TritBits → TritBits
first_bits matches k zero result = result
first_bits matches k (suc index) result =
    first_bits matches k index (mux_bits (extract_bits index index matches) (lit_bits (one_hot k index)) result)

module _ (reads_past : ℕ → Bool) (b : NetBits) where
  -- The age at which a slot is read.
  abbrev pub age_of : ℕ → Age
  age_of i = cond (reads_past i) past curr

  abbrev pub value_bits : List Net → TritBits
  value_bits = read_bits b age_of

  abbrev pub net_bit : Net → TritBits
  net_bit n = value_bits (n ∷ [])

  abbrev pub past_bits : List Net → TritBits
  past_bits = read_bits b (λ i. past)

  abbrev pub curr_bits : List Net → TritBits
  curr_bits = read_bits b (λ i. curr)

  abbrev pub control_bits : Control → TritBits
  control_bits w = invert_bits w.inverted (net_bit w.net)

  abbrev pub clock_bits : Control → TritBits
  clock_bits w =
      and_bits (invert_bits w.inverted (curr_bits (w.net ∷ [])))
      (not_bits (invert_bits w.inverted (past_bits (w.net ∷ []))))

  -- A shift of n nets, of the nets and the operations of its arm.
  unfoldable pub shifted_bits : BinaryOp → BinaryOp → Bool → ℕ → List Net → List Net → ℕ → TritBits
  shifted_bits on_x on_y signed n nets amount stride =
      let w = shift_width (length nets) (length amount) stride in
      let amount_bits = value_bits (zext amount w) in
      shift_bits on_x on_y n w (value_bits (extended signed nets w)) amount_bits (bvmul amount_bits.y (nat2bv w stride))

  unfoldable pub shift_cell_bits : Shift → List Net → List Net → ℕ → TritBits
  shift_cell_bits cells.shl nets = shifted_bits c.bvshl c.bvshl false (length nets) nets
  shift_cell_bits cells.ushr nets = shifted_bits c.bvlshr c.bvlshr false (length nets) nets
  shift_cell_bits cells.sshr nets = shifted_bits c.bvashr c.bvashr true (length nets) nets
  shift_cell_bits cells.xshr nets = shifted_bits c.bvashr c.bvlshr true (length nets) (nets ++ (constant Undef ∷ []))

  abbrev pub compared_bits : Net → Trit → TritBits → TritBits
  compared_bits v mask prd = and_bits prd (not_bits (xor_bits (net_bit v) (net_bit (constant mask))))

  unfoldable pub product_bits : List Net → List Trit → TritBits → TritBits
  product_bits [] pattern prd = prd
  product_bits (v ∷ nets) [] prd = prd
  product_bits (v ∷ nets) (Undef ∷ pattern) prd = product_bits nets pattern prd
  product_bits (v ∷ nets) (Zero ∷ pattern) prd = product_bits nets pattern (compared_bits v Zero prd)
  product_bits (v ∷ nets) (One ∷ pattern) prd = product_bits nets pattern (compared_bits v One prd)

  unfoldable pub sum_bits : List Net → List (List Trit) → TritBits → TritBits
  sum_bits nets [] total = total
  sum_bits nets (pattern ∷ alternates) total =
      sum_bits nets alternates (or_bits total (product_bits nets pattern (lit_bits (One ∷ []))))

  abbrev pub matches_bits : List Net → List (List (List Trit)) → TritBits
  matches_bits nets patterns = concat_bits (map (λ alternates. sum_bits nets alternates (lit_bits (Zero ∷ []))) patterns)

  unfoldable pub match_bits : List Net → Net → List (List (List Trit)) → TritBits
  match_bits nets enable patterns =
      let k = length patterns in
      mux_bits (net_bit enable) (first_bits (matches_bits nets patterns) k k (lit_bits (replicate k Zero)))
      (lit_bits (replicate k Zero))

  abbrev pub loaded_bits : Bool → FlipFlop → List Net → TritBits
  loaded_bits true f out =
      mux_bits (control_bits f.reset) (lit_bits f.reset_value)
      (mux_bits (control_bits f.enable) (value_bits f.dat) (past_bits out))
  loaded_bits false f out =
      mux_bits (control_bits f.enable) (mux_bits (control_bits f.reset) (lit_bits f.reset_value)
      (value_bits f.dat)) (past_bits out)

  abbrev pub clocked_bits : FlipFlop → List Net → TritBits
  clocked_bits f out = mux_bits (clock_bits f.clock) (loaded_bits f.reset_over_enable f out) (past_bits out)

  abbrev pub cleared_bits : Bool → FlipFlop → TritBits → TritBits
  cleared_bits true f dat = mux_bits (control_bits f.clear) (lit_bits f.clear_value) dat
  cleared_bits false f dat = dat

  abbrev pub adc_cell_bits : List Net → List Net → Net → TritBits
  adc_cell_bits [] y carry = net_bit carry
  adc_cell_bits (n ∷ x) y carry =
      adc_bits (value_bits (n ∷ x)) (value_bits y) (bit_of b age_of is_undef carry) (bit_of b age_of is_one carry)
      (length (n ∷ x))

  abbrev pub cell_bits : ℕ → ℕ → Cell → TritBits
  cell_bits s w cells.void = tb [] []
  cell_bits s w cells.note = tb [] []
  cell_bits s w (cells.input n) = tb [] []
  cell_bits s w (cells.io_buf n) = value_bits (output_nets s w)
  cell_bits s w (cells.unary cells.buf x) = value_bits x
  cell_bits s w (cells.unary cells.inverter x) = not_bits (value_bits x)
  cell_bits s w (cells.binary o x y) = binary_bits o (value_bits x) (value_bits y) (length x)
  cell_bits s w (cells.mux sel x y) = mux_bits (net_bit sel) (value_bits x) (value_bits y)
  cell_bits s w (cells.adc x y carry) = adc_cell_bits x y carry
  cell_bits s w (cells.aig x y) = and_bits (control_bits x) (control_bits y)
  cell_bits s w (cells.shift o nets amount stride) = shift_cell_bits o nets amount stride
  cell_bits s w (cells.match nets enable patterns) = match_bits nets enable patterns
  cell_bits s w (cells.assign nets enable update offset) =
      mux_bits (net_bit enable) (value_bits (overwritten nets offset update)) (value_bits nets)
  cell_bits s w (cells.dff f) = cleared_bits (has_clear f) f (clocked_bits f (output_nets s w))

-- An Input has no terms; nor have a Void and a Note, which have no output.
abbrev pub NotInput : Cell → Type 0
NotInput d = (n : ℕ) → d ≡ cells.input n → ⊥
