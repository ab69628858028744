-- Laws of the definitions of CellBits.
use mathlib.Core.Path.{◌≡◌, refl, ◌∙◌}
use mathlib.Core.Bool.{Bool, true, false, not, cond}
use mathlib.Core.List.{List, [], ◌∷◌, ◌++◌, map}
use Prim.Native.Nat.{ℕ, zero, suc, ◌+◌, ◌≤◌, ◌<◌}
use native.Mathlib.Omega.{arith}
use lib.ListN.{length, take, drop, replicate, length-map, length-append, length-replicate, length-take, length-drop}
use Rattle.logic.specs.Net.{Net, constant, slot}
use Rattle.logic.proofs.TableLaws.{length-tab}
use Rattle.logic.specs.declared.Trit.{Trit}
use Rattle.logic.specs.declared.Trit.TheVariants.{Zero, One, Undef}
use Rattle.bitvec.specs.Bits.{nat2bv}
use Rattle.bitvec.specs.Ops.{bvmul}
use Rattle.engine.specs.Call.{BinaryOp}
use Rattle.engine.specs.Meaning.{Value, Assignment}
use Rattle.cell.specs.Cell.{Cell, Control, FlipFlop, Shift, Binary, binary_width, output_len}
use Rattle.cell.specs.Cell as cells
use Rattle.right.specs.Shape.{Shaped, Wide}
use Rattle.smt.specs.Prog.{◌>>=◌, curr, past, is_undef, is_one, TritVec}
use Rattle.smt.specs.Builder.{tv_lit, tv_bind, tv_extract, tv_not, tv_or, tv_xor, tv_mux, tv_concat, collect, value_of}
use Rattle.smt.specs.Builder.{curr_net, past_net, invert_net, clock_net, tv_shift, output_nets, one_hot, overwritten}
use Rattle.smt.specs.Builder.{has_clear, shift_width, zext, extended, first_match, net, control_net, prepare_at}
use Rattle.smt.specs.Builder.{prepare_shift, shifted, compared, product, sum, match_of, match_cell, enabled, reset_to}
use Rattle.smt.specs.Builder.{loaded, cleared, dff_cell, adc_cell, cell}
use Rattle.smt.specs.Wp.{wp}
use Rattle.smt.proofs.WpLaws.{wp_seq}
use Rattle.smt.specs.Formula.{TritBits, NetBits, net_bits, bit_of, read_bits, lit_bits, mux_bits}
use Rattle.smt.proofs.FormulaLaws.{one}
use Rattle.smt.proofs.Terms.{Is, Reads, tv_lit-wp, tv_extract-wp, tv_not-wp, tv_and-wp, tv_or-wp, tv_xor-wp, tv_mux-wp}
use Rattle.smt.proofs.Terms.{invert_net-wp, net_of-wp, collect-wp, tv_concat-wp, value_of-wp, tv_binary-wp, Prepares}
use Rattle.smt.proofs.Terms.{tv_shift-wp, tv_adc-wp}
use Rattle.smt.specs.CellBits.{first_bits, age_of, value_bits, net_bit, past_bits, control_bits, clock_bits, shifted_bits}
use Rattle.smt.specs.CellBits.{shift_cell_bits, compared_bits, product_bits, sum_bits, matches_bits, match_bits}
use Rattle.smt.specs.CellBits.{loaded_bits, clocked_bits, cleared_bits, adc_cell_bits, cell_bits, NotInput}

-- A cell of two operands with an output has operands.
pub wide : (o : Binary) (n : ℕ) → Wide o n → 0 < binary_width o n → 0 < n
wide cells.and n h some = some
wide cells.or n h some = some
wide cells.xor n h some = some
wide cells.mul n h some = some
wide cells.eq n h some = h
wide cells.ult n h some = h
wide cells.slt n h some = h
wide cells.udiv n h some = some
wide cells.umod n h some = some
wide cells.sdiv_trunc n h some = h
wide cells.smod_trunc n h some = h

pub length-overwritten : {A : Type 0} (value : List A) (offset : ℕ) (update : List A)
    → offset + length update ≤ length value
    → length (take offset value ++ (update ++ drop (offset + length update) value)) ≡ length value
length-overwritten value offset update h =
    simp (length-append, length-take, length-drop) (omega arith)

module _ (reads_past : ℕ → Bool) (ρ : Assignment) (v : ℕ → Value) where
  abbrev b : NetBits
  b = net_bits ρ

  pub net-wp : Reads ρ v (net reads_past) (age_of reads_past b)
  unfolding net read_bits
  net-wp (constant t) = net_of-wp ρ v curr (constant t)
  net-wp (slot i) = go (reads_past i)
    where
      go : (p : Bool) → wp ρ v (cond p (past_net (slot i)) (curr_net (slot i)))
          (λ r. Is ρ v r (read_bits b (λ j. cond p past curr) (slot i ∷ [])))
      go true = net_of-wp ρ v past (slot i)
      go false = net_of-wp ρ v curr (slot i)

  value-wp : (nets : List Net) → 0 < length nets → wp ρ v (value_of (net reads_past) nets)
      (λ r. Is ρ v r (value_bits reads_past b nets))
  value-wp = value_of-wp ρ v (net reads_past) (age_of reads_past b) net-wp

  past-wp : (s w : ℕ) → 0 < w → wp ρ v (value_of past_net (output_nets s w))
      (λ r. Is ρ v r (past_bits reads_past b (output_nets s w)))
  past-wp s w some = value_of-wp ρ v past_net (λ i. past) (net_of-wp ρ v past) (output_nets s w) (simp length-tab some)

  -- The widths of what is read.
  length-x : (nets : List Net) → length (value_bits reads_past b nets).x ≡ length nets
  unfolding read_bits
  length-x nets = length-map nets (bit_of b (age_of reads_past b) is_undef)

  carry_is : (n : Net) (r : TritVec) → Is ρ v r (net_bit reads_past b n)
      → Is ρ v r (one (bit_of b (age_of reads_past b) is_undef n) (bit_of b (age_of reads_past b) is_one n))
  unfolding read_bits
  carry_is n r h = h

  control_net-wp : (w : Control) → wp ρ v (control_net reads_past w) (λ r. Is ρ v r (control_bits reads_past b w))
  unfolding control_net
  control_net-wp w = wp_seq ρ v (net reads_past w.net) _ _ _ (net-wp w.net) λ r h. invert_net-wp ρ v w r _ h

  clock_net-wp : (w : Control) → wp ρ v (clock_net w) (λ r. Is ρ v r (clock_bits reads_past b w))
  unfolding clock_net
  clock_net-wp w =
      wp_seq ρ v (curr_net w.net) _ _ _ (net_of-wp ρ v curr w.net) λ r1 h1.
      wp_seq ρ v (invert_net w r1) _ _ _ (invert_net-wp ρ v w r1 _ h1) λ r2 h2.
      wp_seq ρ v (past_net w.net) _ _ _ (net_of-wp ρ v past w.net) λ r3 h3.
      wp_seq ρ v (invert_net w r3) _ _ _ (invert_net-wp ρ v w r3 _ h3) λ r4 h4.
      wp_seq ρ v (tv_not r4) _ _ _ (tv_not-wp ρ v r4 _ h4) λ r5 h5.
      tv_and-wp ρ v r2 r5 1 _ _ h2 h5

  -- ---- shifts
  prepare_at-wp : (w : ℕ) (nets amount : List Net) (stride : ℕ) → 0 < length nets → 0 < length amount
      → wp ρ v (prepare_at reads_past w nets amount stride)
      (λ p. Prepares ρ v p w (value_bits reads_past b nets) (value_bits reads_past b amount)
      (bvmul (value_bits reads_past b amount).y (nat2bv w stride)))
  unfolding prepare_at ◌>>=◌
  prepare_at-wp w nets amount stride n m =
      wp_seq ρ v (value_of (net reads_past) nets) _ _ _ (value-wp nets n) λ x hx.
      wp_seq ρ v (value_of (net reads_past) amount) _ _ _ (value-wp amount m) λ y hy.
      λ k1 e1 k2 e2. record { width = refl; value-is = hx; amount-is = hy; by_is = cc }

  -- Neither the value nor the amount is extended to nothing.
  pub shift-some : (n m stride : ℕ) → 0 < shift_width n m stride
  unfolding shift_width
  shift-some n m stride = omega arith

  pub zext-some : (nets : List Net) (w : ℕ) → 0 < w → 0 < length (zext nets w)
  zext-some nets w h = simp (length-append, length-replicate) (omega arith)

  pub extended-some : (signed : Bool) (nets : List Net) (w : ℕ) → 0 < length nets → 0 < length (extended signed nets w)
  extended-some true nets w h = simp length-append (omega arith)
  extended-some false nets w h = simp length-append (omega arith)

  shifted-wp : (on_x on_y : BinaryOp) (signed : Bool) (n : ℕ) (nets amount : List Net) (stride : ℕ) → 0 < length nets
      → wp ρ v (prepare_shift reads_past nets amount stride signed >>= tv_shift on_x on_y n)
      (λ r. Is ρ v r (shifted_bits reads_past b on_x on_y signed n nets amount stride))
  unfolding shifted_bits
  shifted-wp on_x on_y signed n nets amount stride some =
      let w = shift_width (length nets) (length amount) stride in
      wp_seq ρ v (prepare_shift reads_past nets amount stride signed) _ _ _
      (prepare_at-wp w (extended signed nets w) (zext amount w) stride (extended-some signed nets w some)
      (zext-some amount w (shift-some (length nets) (length amount) stride)))
      λ p h. tv_shift-wp ρ v on_x on_y n p w _ _ _ h

  shift_cell_wp : (o : Shift) (nets amount : List Net) (stride : ℕ) → 0 < length nets
      → wp ρ v (shifted reads_past o nets amount stride) (λ r. Is ρ v r (shift_cell_bits reads_past b o nets amount stride))
  unfolding shifted shift_cell_bits
  shift_cell_wp cells.shl nets amount stride some = shifted-wp _ _ false (length nets) nets amount stride some
  shift_cell_wp cells.ushr nets amount stride some = shifted-wp _ _ false (length nets) nets amount stride some
  shift_cell_wp cells.sshr nets amount stride some = shifted-wp _ _ true (length nets) nets amount stride some
  shift_cell_wp cells.xshr nets amount stride some =
      shifted-wp _ _ true (length nets) (nets ++ (constant Undef ∷ [])) amount stride (simp length-append (omega arith))

  -- ---- Match
  compared-wp : (n : Net) (mask : Trit) (prd : TritVec) (P : TritBits) → Is ρ v prd P
      → wp ρ v (compared reads_past n mask prd) (λ r. Is ρ v r (compared_bits reads_past b n mask P))
  unfolding compared
  compared-wp n mask prd P h =
      wp_seq ρ v (net reads_past n) _ _ _ (net-wp n) λ r1 h1.
      wp_seq ρ v (net reads_past (constant mask)) _ _ _ (net-wp (constant mask)) λ r2 h2.
      wp_seq ρ v (tv_xor r1 r2) _ _ _ (tv_xor-wp ρ v r1 r2 _ _ h1 h2) λ r3 h3.
      wp_seq ρ v (tv_not r3) _ _ _ (tv_not-wp ρ v r3 _ h3) λ r4 h4.
      tv_and-wp ρ v prd r4 1 _ _ h h4

  product-wp : (nets : List Net) (pattern : List Trit) (prd : TritVec) (P : TritBits) → Is ρ v prd P
      → wp ρ v (product reads_past nets pattern prd) (λ r. Is ρ v r (product_bits reads_past b nets pattern P))
  unfolding product product_bits
  product-wp [] pattern prd P h = h
  product-wp (n ∷ nets) [] prd P h = h
  product-wp (n ∷ nets) (Undef ∷ pattern) prd P h = product-wp nets pattern prd P h
  product-wp (n ∷ nets) (Zero ∷ pattern) prd P h =
      wp_seq ρ v (compared reads_past n Zero prd) _ _ _ (compared-wp n Zero prd P h) λ r hr.
      product-wp nets pattern r _ hr
  product-wp (n ∷ nets) (One ∷ pattern) prd P h =
      wp_seq ρ v (compared reads_past n One prd) _ _ _ (compared-wp n One prd P h) λ r hr. product-wp nets pattern r _ hr

  sum-wp : (nets : List Net) (alternates : List (List Trit)) (total : TritVec) (T : TritBits) → Is ρ v total T
      → wp ρ v (sum reads_past nets alternates total) (λ r. Is ρ v r (sum_bits reads_past b nets alternates T))
  unfolding sum sum_bits
  sum-wp nets [] total T h = h
  sum-wp nets (pattern ∷ alternates) total T h =
      wp_seq ρ v (tv_lit (One ∷ [])) _ _ _ (tv_lit-wp ρ v (One ∷ [])) λ r1 h1.
      wp_seq ρ v (product reads_past nets pattern r1) _ _ _ (product-wp nets pattern r1 _ h1) λ r2 h2.
      wp_seq ρ v (tv_or total r2 1) _ _ _ (tv_or-wp ρ v total r2 1 _ _ h h2) λ r3 h3.
      sum-wp nets alternates r3 _ h3

  match_of-wp : (nets : List Net) (alternates : List (List Trit))
      → wp ρ v (match_of reads_past nets alternates) (λ r. Is ρ v r
      (sum_bits reads_past b nets alternates (lit_bits (Zero ∷ []))))
  unfolding match_of
  match_of-wp nets alternates =
      wp_seq ρ v (tv_lit (Zero ∷ [])) _ _ _ (tv_lit-wp ρ v (Zero ∷ [])) λ r h. sum-wp nets alternates r _ h

  first_match-wp : (m : TritVec) (M : TritBits) (k index : ℕ) (r : TritVec) (R : TritBits) → Is ρ v m M → Is ρ v r R
      → wp ρ v (first_match m k index r) (λ q. Is ρ v q (first_bits M k index R))
  unfolding first_match first_bits
  first_match-wp m M k zero r R hm hr = hr
  first_match-wp m M k (suc index) r R hm hr =
      wp_seq ρ v (tv_extract index index m) _ _ _ (tv_extract-wp ρ v index index m M hm) λ s hs.
      wp_seq ρ v (tv_lit (one_hot k index)) _ _ _ (tv_lit-wp ρ v (one_hot k index)) λ a ha.
      wp_seq ρ v (tv_mux s a r k) _ _ _ (tv_mux-wp ρ v s a r k _ _ _ hs ha hr) λ q hq.
      first_match-wp m M k index q _ hm hq

  match_cell-wp : (nets : List Net) (enable : Net) (patterns : List (List (List Trit))) → 0 < length patterns
      → wp ρ v (match_cell reads_past nets enable patterns (length patterns))
      (λ r. Is ρ v r (match_bits reads_past b nets enable patterns))
  unfolding match_cell match_bits
  match_cell-wp nets enable patterns some =
      let k = length patterns in
      let each : List (List Trit) → TritBits = λ alternates.
      sum_bits reads_past b nets alternates (lit_bits (Zero ∷ [])) in
      wp_seq ρ v (collect (match_of reads_past nets) patterns) _ _ _
      (collect-wp ρ v (match_of reads_past nets) each (match_of-wp nets) patterns) λ ts hts.
      wp_seq ρ v (tv_concat ts) _ _ _ (tv_concat-wp ρ v ts (map each patterns) (rw (length-map patterns each) some) hts)
      λ m hm.
      wp_seq ρ v (tv_bind m k) _ (λ r. Is ρ v r (matches_bits reads_past b nets patterns)) _
      (λ x y ex ey. (ex ∙ hm.0, ey ∙ hm.1)) λ m hm.
      wp_seq ρ v (net reads_past enable) _ _ _ (net-wp enable) λ e he.
      wp_seq ρ v (tv_lit (replicate k Zero)) _ _ _ (tv_lit-wp ρ v (replicate k Zero)) λ cold hc.
      wp_seq ρ v (first_match m k k cold) _ _ _ (first_match-wp m _ k k cold _ hm hc) λ r hr.
      tv_mux-wp ρ v e r cold k _ _ _ he hr hc

  -- ---- Dff
  enabled-wp : (f : FlipFlop) (s w : ℕ) (e d : TritVec) (E D : TritBits) → 0 < w → Is ρ v e E → Is ρ v d D
      → wp ρ v (enabled reads_past f s w e d) (λ r. Is ρ v r (mux_bits E D (past_bits reads_past b (output_nets s w))))
  unfolding enabled
  enabled-wp f s w e d E D some he hd =
      wp_seq ρ v (value_of past_net (output_nets s w)) _ _ _ (past-wp s w some) λ r hr. tv_mux-wp ρ v e d r w _ _ _ he hd hr

  reset_to-wp : (f : FlipFlop) (w : ℕ) (e d : TritVec) (E D : TritBits) → Is ρ v e E → Is ρ v d D
      → wp ρ v (reset_to reads_past f w e d) (λ r. Is ρ v r (mux_bits E (lit_bits f.reset_value) D))
  unfolding reset_to
  reset_to-wp f w e d E D he hd =
      wp_seq ρ v (tv_lit f.reset_value) _ _ _ (tv_lit-wp ρ v f.reset_value) λ r hr.
      tv_mux-wp ρ v e r d w _ _ _ he hr hd

  loaded-wp : (flag : Bool) (f : FlipFlop) (s w : ℕ) (r e d : TritVec) → 0 < w
      → Is ρ v r (control_bits reads_past b f.reset)
      → Is ρ v e (control_bits reads_past b f.enable) → Is ρ v d (value_bits reads_past b f.dat)
      → wp ρ v (loaded reads_past flag f s w r e d) (λ q. Is ρ v q (loaded_bits reads_past b flag f (output_nets s w)))
  unfolding loaded
  loaded-wp true f s w r e d some hr he hd =
      wp_seq ρ v (enabled reads_past f s w e d) _ _ _ (enabled-wp f s w e d _ _ some he hd) λ q hq.
      reset_to-wp f w r q _ _ hr hq
  loaded-wp false f s w r e d some hr he hd =
      wp_seq ρ v (reset_to reads_past f w r d) _ _ _ (reset_to-wp f w r d _ _ hr hd) λ q hq.
      enabled-wp f s w e q _ _ some he hq

  cleared-wp : (flag : Bool) (f : FlipFlop) (w : ℕ) (e d : TritVec) (D : TritBits)
      → Is ρ v e (control_bits reads_past b f.clear)
      → Is ρ v d D → wp ρ v (cleared reads_past flag f w e d) (λ r. Is ρ v r (cleared_bits reads_past b flag f D))
  unfolding cleared
  cleared-wp true f w e d D he hd =
      wp_seq ρ v (tv_lit f.clear_value) _ _ _ (tv_lit-wp ρ v f.clear_value) λ r hr.
      tv_mux-wp ρ v e r d w _ _ _ he hr hd
  cleared-wp false f w e d D he hd = hd

  dff_cell-wp : (f : FlipFlop) (s w : ℕ) → 0 < length f.dat → 0 < w
      → wp ρ v (dff_cell reads_past f s w)
      (λ r. Is ρ v r (cleared_bits reads_past b (has_clear f) f (clocked_bits reads_past b f (output_nets s w))))
  unfolding dff_cell
  dff_cell-wp f s w n some =
      wp_seq ρ v (value_of (net reads_past) f.dat) _ _ _ (value-wp f.dat n) λ d hd.
      wp_seq ρ v (control_net reads_past f.clear) _ _ _ (control_net-wp f.clear) λ c hc.
      wp_seq ρ v (control_net reads_past f.reset) _ _ _ (control_net-wp f.reset) λ r hr.
      wp_seq ρ v (control_net reads_past f.enable) _ _ _ (control_net-wp f.enable) λ e he.
      wp_seq ρ v (loaded reads_past f.reset_over_enable f s w r e d) _ _ _
      (loaded-wp f.reset_over_enable f s w r e d some hr he hd) λ l hl.
      wp_seq ρ v (clock_net f.clock) _ _ _ (clock_net-wp f.clock) λ k hk.
      wp_seq ρ v (value_of past_net (output_nets s w)) _ _ _ (past-wp s w some) λ o ho.
      wp_seq ρ v (tv_mux k l o w) _ _ _ (tv_mux-wp ρ v k l o w _ _ _ hk hl ho) λ q hq.
      cleared-wp (has_clear f) f w c q _ hc hq

  -- ---- every cell
  adc_cell-wp : (x y : List Net) (carry : Net) → length y ≡ length x
      → wp ρ v (adc_cell reads_past x y carry) (λ r. Is ρ v r (adc_cell_bits reads_past b x y carry))
  unfolding adc_cell
  adc_cell-wp [] y carry e = net-wp carry
  adc_cell-wp (n ∷ x) y carry e =
      wp_seq ρ v (value_of (net reads_past) (n ∷ x)) _ _ _ (value-wp (n ∷ x) (omega arith)) λ p hp.
      wp_seq ρ v (value_of (net reads_past) y) _ _ _ (value-wp y (omega arith)) λ q hq.
      wp_seq ρ v (net reads_past carry) _ _ _ (net-wp carry) λ r hr.
      tv_adc-wp ρ v p q r (length (n ∷ x)) _ _ _ _ hp hq (carry_is carry r hr) (length-x (n ∷ x)) (length-x y ∙ e)

  mux-wp : (sel : Net) (x y : List Net) (w : ℕ) → 0 < length x → 0 < length y
      → wp ρ v (net reads_past sel >>= λ s. value_of (net reads_past) x >>= λ p. value_of
      (net reads_past) y >>= λ q. tv_mux s p q w)
      (λ r. Is ρ v r (mux_bits (net_bit reads_past b sel) (value_bits reads_past b x) (value_bits reads_past b y)))
  mux-wp sel x y w n m =
      wp_seq ρ v (net reads_past sel) _ _ _ (net-wp sel) λ s hs.
      wp_seq ρ v (value_of (net reads_past) x) _ _ _ (value-wp x n) λ p hp.
      wp_seq ρ v (value_of (net reads_past) y) _ _ _ (value-wp y m) λ q hq.
      tv_mux-wp ρ v s p q w _ _ _ hs hp hq

  pub cell-wp : (s : ℕ) (d : Cell) → Shaped d → NotInput d → 0 < output_len d
      → wp ρ v (cell reads_past s (output_len d) d) (λ r. Is ρ v r (cell_bits reads_past b s (output_len d) d))
  unfolding cell
  cell-wp s cells.void h terms some = absurd (omega arith)
  cell-wp s cells.note h terms some = absurd (omega arith)
  cell-wp s (cells.input n) h terms some = absurd (terms n refl)
  cell-wp s (cells.io_buf n) h terms some = value-wp (output_nets s n) (simp length-tab some)
  cell-wp s (cells.unary cells.buf x) h terms some = value-wp x some
  cell-wp s (cells.unary cells.inverter x) h terms some =
      wp_seq ρ v (value_of (net reads_past) x) _ _ _ (value-wp x some) λ p hp. tv_not-wp ρ v p _ hp
  cell-wp s (cells.binary o x y) h terms some =
      let n = wide o (length x) h.1 some in
      wp_seq ρ v (value_of (net reads_past) x) _ _ _ (value-wp x n) λ p hp.
      wp_seq ρ v (value_of (net reads_past) y) _ _ _ (value-wp y (rw h.0 n)) λ q hq.
      tv_binary-wp ρ v o p q (length x) (output_len (cells.binary o x y)) _ _ hp hq
  cell-wp s (cells.mux sel x y) h terms some = mux-wp sel x y (length x) some (rw h some)
  cell-wp s (cells.adc x y carry) h terms some = adc_cell-wp x y carry h
  cell-wp s (cells.aig x y) h terms some =
      wp_seq ρ v (control_net reads_past x) _ _ _ (control_net-wp x) λ p hp.
      wp_seq ρ v (control_net reads_past y) _ _ _ (control_net-wp y) λ q hq.
      tv_and-wp ρ v p q 1 _ _ hp hq
  cell-wp s (cells.shift o nets amount stride) h terms some = shift_cell_wp o nets amount stride some
  cell-wp s (cells.match nets enable patterns) h terms some = match_cell-wp nets enable patterns some
  cell-wp s (cells.assign nets enable update offset) h terms some =
      mux-wp enable (overwritten nets offset update) nets (length nets)
      (rw (length-overwritten nets offset update h) some) some
  cell-wp s (cells.dff f) h terms some = dff_cell-wp f s (length f.dat) some some
