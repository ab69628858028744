-- The bits of a cell's terms depend on the bits of past nets and of the cell's current reads alone.
use mathlib.Core.Path.{◌≡◌, refl, ap₂}
use mathlib.Core.Bool.{Bool, true, false, cond}
use mathlib.Core.List.{List, [], ◌∷◌, ◌++◌, map}
use mathlib.Core.List.Memᴰ
use mathlib.Core.List.{Memᴰ}
use Prim.Native.Nat.{ℕ, zero, suc, ◌+◌, ◌-◌}
use lib.ListN.{length, get_or, take, drop, replicate}
use Rattle.logic.specs.Net.{Net, constant, slot}
use Rattle.logic.specs.declared.Trit.{Trit}
use Rattle.logic.specs.declared.Trit.TheVariants.{Zero, One, Undef}
use Rattle.bitvec.specs.Bits.{Bits}
use Rattle.engine.specs.Call.{BinaryOp}
use Rattle.cell.specs.Cell.{Cell, Control, FlipFlop, Shift}
use Rattle.cell.specs.Cell as c
use Rattle.cell.specs.Each.{Each}
use Rattle.rules.specs.Reads.{current_net, current_nets, clock_now, compared, compared_by_any, compared_nets, current_reads}
use Rattle.smt.specs.Prog.{Age, curr, past, Half, is_undef, is_one}
use Rattle.smt.specs.Builder.{output_nets, zext, extended, shift_width, overwritten, has_clear}
use Rattle.smt.specs.Formula.{TritBits, tb, NetBits, bit_of, read_bits, lit_bits}
use Rattle.smt.specs.CellBits.{age_of, value_bits, net_bit, past_bits, curr_bits, control_bits, shifted_bits}
use Rattle.smt.specs.CellBits.{shift_cell_bits, compared_bits, product_bits, sum_bits, match_bits, loaded_bits}
use Rattle.smt.specs.CellBits.{clocked_bits, cleared_bits, adc_cell_bits, cell_bits}

-- The same bits, now on the slots of a list, before on every slot.
pub record SameOn (slots : List ℕ) (b b' : NetBits) : Type 0 where
  pub now : (i : ℕ) → Memᴰ i slots → (h : Half) → b curr i h ≡ b' curr i h
  pub was : (i : ℕ) (h : Half) → b past i h ≡ b' past i h

-- The bits of each net of a list, as read at some age, are the same.
module _ (age : ℕ → Age) (b b' : NetBits) where
  abbrev pub Same : Net → Type 0
  Same n = (h : Half) → bit_of b age h n ≡ bit_of b' age h n

  pub constant-same : (t : Trit) → Same (constant t)
  constant-same t is_undef = refl
  constant-same t is_one = refl

  pub read_same : (nets : List Net) → Each Same nets → read_bits b age nets ≡ read_bits b' age nets
  unfolding read_bits
  read_same nets h = ap₂ tb (half is_undef nets h) (half is_one nets h)
    where
      half : (g : Half) (nets : List Net) → Each Same nets → map (bit_of b age g) nets ≡ map (bit_of b' age g) nets
      half g [] h = refl
      half g (n ∷ nets) h = ap₂ (λ (x : Bool) (l : Bits). x ∷ l) (h.0 g) (half g nets h.1)

module _ {A : Type 0} (P : A → Type 0) where
  each_append : (l m : List A) → Each P l → Each P m → Each P (l ++ m)
  each_append [] m h g = g
  each_append (a ∷ l) m h g = (h.0, each_append l m h.1 g)

  each-replicate : (n : ℕ) (a : A) → P a → Each P (replicate n a)
  each-replicate zero a p = tt
  each-replicate (suc n) a p = (p, each-replicate n a p)

  each_take : (n : ℕ) (l : List A) → Each P l → Each P (take n l)
  each_take zero l h = tt
  each_take (suc n) [] h = tt
  each_take (suc n) (a ∷ l) h = (h.0, each_take n l h.1)

  each-drop : (n : ℕ) (l : List A) → Each P l → Each P (drop n l)
  each-drop zero l h = h
  each-drop (suc n) [] h = tt
  each-drop (suc n) (a ∷ l) h = each-drop n l h.1

  each_get_d : (l : List A) (n : ℕ) (a : A) → P a → Each P l → P (get_or l n a)
  each_get_d [] n a p h = p
  each_get_d (x ∷ l) zero a p h = h.0
  each_get_d (x ∷ l) (suc n) a p h = each_get_d l n a p h.1

module _ (reads_past : ℕ → Bool) (b b' : NetBits) where
  abbrev On : List ℕ → Type 0
  On slots = SameOn slots b b'

  first : (k l : List ℕ) → On (k ++ l) → On k
  first k l h = record { now = λ i m. h.now i (Memᴰ.append_left l m); was = h.was }

  second : (k l : List ℕ) → On (k ++ l) → On l
  second k l h = record { now = λ i m. h.now i (Memᴰ.append_right k m); was = h.was }

  abbrev SameNet : Net → Type 0
  SameNet = Same (age_of reads_past b) b b'

  net-same : (n : Net) → On (current_net reads_past n) → SameNet n
  net-same (constant t) h = constant-same (age_of reads_past b) b b' t
  net-same (slot i) h = go (reads_past i) refl h.now
    where
      at : (a : Age) → ((h : Half) → b a i h ≡ b' a i h) → age_of reads_past b i ≡ a → SameNet (slot i)
      at a e q is_undef = rw q (e is_undef)
      at a e q is_one = rw q (e is_one)

      go : (t : Bool) → reads_past i ≡ t →
          ((j : ℕ) → Memᴰ j (cond t [] (i ∷ [])) → (h : Half) → b curr j h ≡ b' curr j h)
          → SameNet (slot i)
      go true e now = at past (h.was i) (rw e)
      go false e now = at curr (now i (Memᴰ.head refl)) (rw e)

  nets-same : (nets : List Net) → On (current_nets reads_past nets) → Each SameNet nets
  unfolding current_nets
  nets-same [] h = tt
  nets-same (n ∷ nets) h = (net-same n (first _ _ h), nets-same nets (second (current_net reads_past n) _ h))

  value_same : (nets : List Net) → Each SameNet nets → value_bits reads_past b nets ≡ value_bits reads_past b' nets
  value_same nets h = read_same (age_of reads_past b) b b' nets h

  one_same : (n : Net) → SameNet n → net_bit reads_past b n ≡ net_bit reads_past b' n
  one_same n h = value_same (n ∷ []) (h, tt)

  nets-value : (nets : List Net) → On (current_nets reads_past nets) → value_bits reads_past b nets
      ≡ value_bits reads_past b' nets
  nets-value nets h = value_same nets (nets-same nets h)

  net-value : (n : Net) → On (current_net reads_past n) → net_bit reads_past b n ≡ net_bit reads_past b' n
  net-value n h = one_same n (net-same n h)

  past_same : (nets : List Net) → ((i : ℕ) (h : Half) → b past i h ≡ b' past i h) → past_bits reads_past b nets
      ≡ past_bits reads_past b' nets
  past_same nets was = read_same (λ i. past) b b' nets (each nets)
    where
      one : (n : Net) → Same (λ i. past) b b' n
      one (constant t) = constant-same (λ i. past) b b' t
      one (slot i) = λ h. half h
        where
          half : (h : Half) → bit_of b (λ i. past) h (slot i) ≡ bit_of b' (λ i. past) h (slot i)
          half is_undef = was i is_undef
          half is_one = was i is_one

      each : (nets : List Net) → Each (Same (λ i. past) b b') nets
      each [] = tt
      each (n ∷ nets) = (one n, each nets)

  clock-same : (n : Net) → On (clock_now n) → curr_bits reads_past b (n ∷ []) ≡ curr_bits reads_past b' (n ∷ [])
  clock-same (constant t) h = read_same (λ i. curr) b b' (constant t ∷ []) (constant-same (λ i. curr) b b' t, tt)
  clock-same (slot i) h = read_same (λ i. curr) b b' (slot i ∷ []) (half, tt)
    where
      half : (g : Half) → bit_of b (λ i. curr) g (slot i) ≡ bit_of b' (λ i. curr) g (slot i)
      half is_undef = h.now i (Memᴰ.head refl) is_undef
      half is_one = h.now i (Memᴰ.head refl) is_one

  control-same : (w : Control) → On (current_net reads_past w.net) → control_bits reads_past b w
      ≡ control_bits reads_past b' w
  control-same w h = rw (net-value w.net h)

  -- ---- shifts: the nets that are added are constants, or the top net again

  extended-same : (signed : Bool) (nets : List Net) (w : ℕ) → Each SameNet nets → Each SameNet (extended signed nets w)
  extended-same true nets w h =
      each_append SameNet nets _ h
      (each-replicate SameNet (w - length nets) _
      (each_get_d SameNet nets (length nets - 1) (constant Undef) (constant-same (age_of reads_past b) b b' Undef) h))
  extended-same false nets w h =
      each_append SameNet nets _ h
      (each-replicate SameNet (w - length nets) _ (constant-same (age_of reads_past b) b b' Zero))

  shifted-same : (on_x on_y : BinaryOp) (signed : Bool) (n : ℕ) (nets amount : List Net) (stride : ℕ) → Each SameNet nets
      → Each SameNet amount
      → shifted_bits reads_past b on_x on_y signed n nets amount stride
      ≡ shifted_bits reads_past b' on_x on_y signed n nets amount stride
  unfolding shifted_bits
  shifted-same on_x on_y signed n nets amount stride h g =
      rw (
        value_same (extended signed nets (shift_width (length nets) (length amount) stride))
            (extended-same signed nets _ h),
        value_same (zext amount (shift_width (length nets) (length amount) stride)) (extended-same false amount _ g),
      )

  shift_same : (o : Shift) (nets amount : List Net) (stride : ℕ) → Each SameNet nets → Each SameNet amount
      → shift_cell_bits reads_past b o nets amount stride ≡ shift_cell_bits reads_past b' o nets amount stride
  unfolding shift_cell_bits
  shift_same c.shl nets amount stride h g = shifted-same _ _ _ _ nets amount stride h g
  shift_same c.ushr nets amount stride h g = shifted-same _ _ _ _ nets amount stride h g
  shift_same c.sshr nets amount stride h g = shifted-same _ _ _ _ nets amount stride h g
  shift_same c.xshr nets amount stride h g =
      shifted-same _ _ _ _ _ amount stride
      (each_append SameNet nets _ h (constant-same (age_of reads_past b) b b' Undef, tt)) g

  -- ---- Match: only compared positions are looked at

  compared_same : (v : Net) (mask : Trit) (prd : TritBits) → SameNet v → compared_bits reads_past b v mask prd
      ≡ compared_bits reads_past b' v mask prd
  compared_same v mask prd h =
      rw (one_same v h, one_same (constant mask) (constant-same (age_of reads_past b) b b' mask))

  product-same : (nets : List Net) (pattern : List Trit) (prd : TritBits) → Each SameNet (compared nets pattern)
      → product_bits reads_past b nets pattern prd ≡ product_bits reads_past b' nets pattern prd
  unfolding product_bits compared
  product-same [] pattern prd h = refl
  product-same (v ∷ nets) [] prd h = refl
  product-same (v ∷ nets) (Undef ∷ pattern) prd h = product-same nets pattern prd h
  product-same (v ∷ nets) (Zero ∷ pattern) prd h =
      rw (compared_same v Zero prd h.0) (product-same nets pattern (compared_bits reads_past b' v Zero prd) h.1)
  product-same (v ∷ nets) (One ∷ pattern) prd h =
      rw (compared_same v One prd h.0) (product-same nets pattern (compared_bits reads_past b' v One prd) h.1)

  each_left : (k l : List Net) → Each SameNet (k ++ l) → Each SameNet k
  each_left [] l h = tt
  each_left (n ∷ k) l h = (h.0, each_left k l h.1)

  each_right : (k l : List Net) → Each SameNet (k ++ l) → Each SameNet l
  each_right [] l h = h
  each_right (n ∷ k) l h = each_right k l h.1

  sum_same : (nets : List Net) (alternates : List (List Trit)) (t : TritBits) →
      Each SameNet (compared_by_any nets alternates)
      → sum_bits reads_past b nets alternates t ≡ sum_bits reads_past b' nets alternates t
  unfolding sum_bits compared_by_any
  sum_same nets [] t h = refl
  sum_same nets (p ∷ alternates) t h =
      rw (product-same nets p (lit_bits (One ∷ [])) (each_left (compared nets p) _ h))
      (sum_same nets alternates _ (each_right (compared nets p) _ h))

  matches-same : (nets : List Net) (patterns : List (List (List Trit))) → Each SameNet (compared_nets nets patterns)
      → map (λ alternates. sum_bits reads_past b nets alternates (lit_bits (Zero ∷ []))) patterns
      ≡ map (λ alternates. sum_bits reads_past b' nets alternates (lit_bits (Zero ∷ []))) patterns
  unfolding compared_nets
  matches-same nets [] h = refl
  matches-same nets (p ∷ patterns) h =
      ap₂ (λ (x : TritBits) (l : List TritBits). x ∷ l) (sum_same nets p _ (each_left (compared_by_any nets p) _ h))
      (matches-same nets patterns (each_right (compared_by_any nets p) _ h))

  match-same : (nets : List Net) (enable : Net) (patterns : List (List (List Trit))) → SameNet enable →
      Each SameNet (compared_nets nets patterns)
      → match_bits reads_past b nets enable patterns ≡ match_bits reads_past b' nets enable patterns
  unfolding match_bits
  match-same nets enable patterns h g = rw (matches-same nets patterns g, one_same enable h)

  -- ---- Assign, Adc, Dff

  overwritten-same : (nets : List Net) (offset : ℕ) (update : List Net) → Each SameNet nets → Each SameNet update →
      Each SameNet (overwritten nets offset update)
  overwritten-same nets offset update h g =
      each_append SameNet (take offset nets) _ (each_take SameNet offset nets h)
      (each_append SameNet update _ g (each-drop SameNet (offset + length update) nets h))

  adc-same : (x y : List Net) (carry : Net) → Each SameNet x → Each SameNet y → SameNet carry
      → adc_cell_bits reads_past b x y carry ≡ adc_cell_bits reads_past b' x y carry
  adc-same [] y carry h g k = one_same carry k
  adc-same (n ∷ x) y carry h g k = rw (value_same (n ∷ x) h, value_same y g, k is_undef, k is_one)

  loaded-same : (over : Bool) (f : FlipFlop) (out : List Net) → control_bits reads_past b f.reset
      ≡ control_bits reads_past b' f.reset
      → control_bits reads_past b f.enable ≡ control_bits reads_past b' f.enable → value_bits reads_past b f.dat
      ≡ value_bits reads_past b' f.dat
      → past_bits reads_past b out ≡ past_bits reads_past b' out → loaded_bits reads_past b over f out
      ≡ loaded_bits reads_past b' over f out
  loaded-same true f out reset enable dat was = rw (reset, enable, dat, was)
  loaded-same false f out reset enable dat was = rw (reset, enable, dat, was)

  cleared-same : (has : Bool) (f : FlipFlop) (x y : TritBits) → control_bits reads_past b f.clear
      ≡ control_bits reads_past b' f.clear → x ≡ y
      → cleared_bits reads_past b has f x ≡ cleared_bits reads_past b' has f y
  cleared-same true f x y clear e = rw (clear, e)
  cleared-same false f x y clear e = e

  dff-same : (f : FlipFlop) (out : List Net) → On (current_reads reads_past (c.dff f))
      → cleared_bits reads_past b (has_clear f) f (clocked_bits reads_past b f out)
      ≡ cleared_bits reads_past b' (has_clear f) f (clocked_bits reads_past b' f out)
  dff-same f out h =
      let from-clear = second (clock_now f.clock.net) _ h in
      let from-reset = second (current_net reads_past f.clear.net) _ from-clear in
      let from-enable = second (current_net reads_past f.reset.net) _ from-reset in
      let was = past_same out h.was in
      let loaded =
      loaded-same f.reset_over_enable f out (control-same f.reset (first _ _ from-reset))
      (control-same f.enable (first _ _ from-enable))
      (nets-value f.dat (second (current_net reads_past f.enable.net) _ from-enable)) was in
      cleared-same (has_clear f) f _ _ (control-same f.clear (first _ _ from-clear))
      (rw (clock-same f.clock.net (first _ _ h), past_same (f.clock.net ∷ []) h.was, loaded, was))

  -- An IoBuf's terms are its slots as read; it is no asserted node.
  pub cell_bits_local : (s w : ℕ) (cell : Cell) → SameOn (current_reads reads_past cell) b b' →
      ((n : ℕ) → cell ≡ c.io_buf n → ⊥)
      → cell_bits reads_past b s w cell ≡ cell_bits reads_past b' s w cell
  cell_bits_local s w c.void h io = refl
  cell_bits_local s w c.note h io = refl
  cell_bits_local s w (c.input n) h io = refl
  cell_bits_local s w (c.io_buf n) h io = absurd (io n refl)
  cell_bits_local s w (c.unary c.buf x) h io = nets-value x h
  cell_bits_local s w (c.unary c.inverter x) h io = rw (nets-value x h)
  cell_bits_local s w (c.binary o x y) h io =
      rw (nets-value x (first _ _ h), nets-value y (second (current_nets reads_past x) _ h))
  cell_bits_local s w (c.mux sel x y) h io =
      let sides = second (current_net reads_past sel) _ h in
      rw (
        net-value sel (first _ _ h),
        nets-value x (first _ _ sides),
        nets-value y (second (current_nets reads_past x) _ sides),
      )
  cell_bits_local s w (c.adc x y carry) h io =
      let rest = second (current_nets reads_past x) _ h in
      adc-same x y carry (nets-same x (first _ _ h)) (nets-same y (first _ _ rest))
      (net-same carry (second (current_nets reads_past y) _ rest))
  cell_bits_local s w (c.aig x y) h io =
      rw (control-same x (first _ _ h), control-same y (second (current_net reads_past x.net) _ h))
  cell_bits_local s w (c.shift o nets amount stride) h io =
      shift_same o nets amount stride (nets-same nets (first _ _ h))
      (nets-same amount (second (current_nets reads_past nets) _ h))
  cell_bits_local s w (c.match nets enable patterns) h io =
      match-same nets enable patterns (net-same enable (first _ _ h))
      (nets-same (compared_nets nets patterns) (second (current_net reads_past enable) _ h))
  cell_bits_local s w (c.assign nets enable update offset) h io =
      let vectors = second (current_net reads_past enable) _ h in
      let value = nets-same nets (first _ _ vectors) in
      rw (
        net-value enable (first _ _ h),
        value_same (overwritten nets offset update)
            (overwritten-same nets offset update value
            (nets-same update (second (current_nets reads_past nets) _ vectors))),
        value_same nets value,
      )
  cell_bits_local s w (c.dff f) h io = dff-same f (output_nets s w) h
