-- Laws of the definitions of CellShows.
use mathlib.Core.Path.{◌≡◌, refl, sym, ap, ap₂, ◌∙◌}
use mathlib.Core.Bool.{Bool, true, false, not, cond}
use mathlib.Core.List.{List, [], ◌∷◌, ◌++◌, map, map-append}
use Prim.Native.Nat.{ℕ, zero, suc, ◌+◌, ◌-◌, ◌*◌, ◌≤◌, ◌<◌, max}
use native.Mathlib.Numerals.{add-one}
use native.Mathlib.Omega.{arith}
use lib.Dec.{ltb, eqb}
use lib.ListN.{length, get_or, take, drop, replicate, length-map, length-append, length-replicate, get_or-map}
use lib.ListN.{get_or-eq_default, drop_of_length-le}
use lib.Seq.{drop-cons}
use Rattle.logic.specs.Net.{Net, constant, slot}
use Rattle.logic.specs.Table.{zip_with, tab}
use Rattle.logic.proofs.TableLaws.{length-tab, map-tab}
use Rattle.logic.specs.Trit.{shows, x_of, y_of}
use Rattle.logic.specs.declared.Trit.{Trit}
use Rattle.logic.specs.declared.Trit.TheVariants.{Zero, One, Undef}
use Rattle.bitvec.specs.Bits.{Bits, bv2nat, nat2bv}
use Rattle.bitvec.specs.Ops.{bvmul}
use Rattle.bitvec.proofs.Laws.{length-bvshl, length-bvlshr, length-bvashr}
use Rattle.engine.specs.Call.{BinaryOp}
use Rattle.engine.specs.Call as c
use Rattle.engine.specs.Call.{Call}
use Rattle.engine.specs.Meaning.{Value, as_bits, Assignment, Holds, denote_op}
use Rattle.cell.specs.Cell.{Cell, Control, FlipFlop, Shift, Binary, output_len}
use Rattle.cell.specs.Cell as cells
use Rattle.right.specs.Shape.{Shaped}
use Rattle.rules.specs.Trits as t
use Rattle.rules.specs.Trits.{any_x, number}
use Rattle.rules.specs.Rules as r
use Rattle.rules.specs.CellRule.{Trits, of_net, as_read, control, inactive, outputs, read, edge, flip_flop_inputs, cell_rule}
use Rattle.rules.specs.CellRule as rule
use Rattle.smt.specs.Prog.{Age, curr, past, is_undef, is_one, TritVec}
use Rattle.smt.specs.Emit.{St, emit}
use Rattle.smt.specs.Builder.{output_nets, one_hot, overwritten, has_clear, is_always_inactive, shift_width, ilog2}
use Rattle.smt.specs.Builder.{zext, extended, cell}
use Rattle.smt.proofs.WpLaws.{wp_mono, wp_sound}
use Rattle.smt.specs.Wp.{Known, Sound}
use Rattle.smt.proofs.Terms.{Is}
use Rattle.smt.specs.Formula.{TritBits, tb, NetBits, net_bits, bit_of, read_bits, lit_bits, extract_bits, mux_bits}
use Rattle.smt.specs.Formula.{shift_bits, binary_bits}
use Rattle.smt.specs.CellBits.{first_bits, age_of, value_bits, net_bit, past_bits, curr_bits, control_bits, clock_bits}
use Rattle.smt.specs.CellBits.{shifted_bits, shift_cell_bits, product_bits, sum_bits, match_bits, loaded_bits}
use Rattle.smt.specs.CellBits.{clocked_bits, cleared_bits, adc_cell_bits, cell_bits, NotInput}
use Rattle.smt.proofs.CellBitsLaws.{length-overwritten, cell-wp}
use Rattle.smt.proofs.Shows.{Shown, empty, BitsShow, shown-is, shown-x, shown-y, shown_ts, one_more_lem, get_d_any}
use Rattle.smt.proofs.Shows.{not-shows, and-shows, or-shows, xor-shows, mux-shows, lit-shows, invert_shows}
use Rattle.smt.proofs.Shows.{Singles, none, more, concat-shows, shown-at, extract-shows}
use Rattle.smt.proofs.ShowsNumber.{zero-x, equals_shows, ult_shows, slt_shows, mul_shows, adc-shows}
use Rattle.smt.proofs.ShowsDivision.{udiv_shows, umod_shows, sdiv_shows, smod_shows}
use Rattle.smt.proofs.ShowsShift.{get_d_pad, by_number, any_x-zeros, moved_shows, shl_lanes, lshr_lanes}
use Rattle.smt.proofs.ShowsShift.{ashr_lanes, xshr_lanes}
use Rattle.smt.specs.CellShows.{trits_of, TermsShow}

-- An operation that keeps the width of its first operand.
abbrev Keeps : BinaryOp → Type 0
Keeps o = (s t : Bits) → length (denote_op o s t) ≡ length s

-- ---- nets

constant-shows : (u : Trit) → shows (x_of u) (y_of u) ≡ u
constant-shows Zero = refl
constant-shows One = refl
constant-shows Undef = refl

-- The trits of nets, each slot read at its age.
pub read-shows : (b : NetBits) (age : ℕ → Age) (f : ℕ → Trit)
    → ((i : ℕ) → shows (b (age i) i is_undef) (b (age i) i is_one) ≡ f i)
    → (nets : List Net) → BitsShow (length nets) (read_bits b age nets) (map (of_net f) nets)
unfolding read_bits
read-shows b age f h [] = empty
read-shows b age f h (constant u ∷ nets) = one_more_lem (x_of u) (y_of u) u (constant-shows u) (read-shows b age f h nets)
read-shows b age f h (slot i ∷ nets) = one_more_lem _ _ (f i) (h i) (read-shows b age f h nets)

map-replicate : {A B : Type 0} (f : A → B) (n : ℕ) (a : A) → map f (replicate n a) ≡ replicate n (f a)
map-replicate f zero a = refl
map-replicate f (suc n) a = ap (λ l. f a ∷ l) (map-replicate f n a)

map-take : {A B : Type 0} (f : A → B) (n : ℕ) (l : List A) → map f (take n l) ≡ take n (map f l)
map-take f zero l = refl
map-take f (suc n) [] = refl
map-take f (suc n) (a ∷ l) = ap (λ r. f a ∷ r) (map-take f n l)

map-drop : {A B : Type 0} (f : A → B) (n : ℕ) (l : List A) → map f (drop n l) ≡ drop n (map f l)
map-drop f zero l = refl
map-drop f (suc n) [] = refl
map-drop f (suc n) (a ∷ l) = map-drop f n l

-- Kleene's And and Or, as the builder folds them and as the rule does.
and_one : (u : Trit) → t.and u One ≡ u
and_one Zero = refl
and_one One = refl
and_one Undef = refl

or-zero : (u : Trit) → t.or u Zero ≡ u
or-zero Zero = refl
or-zero One = refl
or-zero Undef = refl

and_assoc : (u v w : Trit) → t.and (t.and u v) w ≡ t.and u (t.and v w)
and_assoc Zero v w = refl
and_assoc One v w = refl
and_assoc Undef Zero w = refl
and_assoc Undef One w = refl
and_assoc Undef Undef Zero = refl
and_assoc Undef Undef One = refl
and_assoc Undef Undef Undef = refl

or_assoc : (u v w : Trit) → t.or (t.or u v) w ≡ t.or u (t.or v w)
or_assoc Zero v w = refl
or_assoc One v w = refl
or_assoc Undef Zero w = refl
or_assoc Undef One w = refl
or_assoc Undef Undef Zero = refl
or_assoc Undef Undef One = refl
or_assoc Undef Undef Undef = refl

-- A compared position.
not-xor-zero : (u : Trit) → t.not (t.xor u Zero) ≡ t.not u
not-xor-zero Zero = refl
not-xor-zero One = refl
not-xor-zero Undef = refl

not-xor-one : (u : Trit) → t.not (t.xor u One) ≡ u
not-xor-one Zero = refl
not-xor-one One = refl
not-xor-one Undef = refl

module _ (reads_past : ℕ → Bool) (b : NetBits) where
  abbrev θ : Trits
  θ = trits_of b

  abbrev value : List Net → TritBits
  value = value_bits reads_past b

  abbrev reading : Net → Trit
  reading = read reads_past θ

  pub value-shows : (nets : List Net) → BitsShow (length nets) (value nets) (map reading nets)
  value-shows = read-shows b (age_of reads_past b) (as_read reads_past θ) at-age
    where
      by_age : (p : Bool) (i : ℕ) → shows (b (cond p past curr) i is_undef) (b (cond p past curr) i is_one)
          ≡ cond p (θ.was i) (θ.now i)
      by_age true i = refl
      by_age false i = refl

      at-age : (i : ℕ) → shows (b (age_of reads_past b i) i is_undef) (b (age_of reads_past b i) i is_one)
          ≡ as_read reads_past θ i
      at-age i = by_age (reads_past i) i

  net-shows : (n : Net) → shows (bit_of b (age_of reads_past b) is_undef n) (bit_of b (age_of reads_past b) is_one n)
      ≡ reading n
  unfolding read_bits
  net-shows n = shown-at (value-shows (n ∷ [])) 0 false false

  past-shows : (nets : List Net) → BitsShow (length nets) (past_bits reads_past b nets) (map (of_net θ.was) nets)
  past-shows = read-shows b (λ i. past) θ.was (λ i. refl)

  curr-shows : (nets : List Net) → BitsShow (length nets) (curr_bits reads_past b nets) (map (of_net θ.now) nets)
  curr-shows = read-shows b (λ i. curr) θ.now (λ i. refl)

  control-shows : (w : Control) → BitsShow 1 (control_bits reads_past b w) (control reading w ∷ [])
  control-shows w = invert_shows w.inverted (value-shows (w.net ∷ []))

  clock-shows : (w : Control) → BitsShow 1 (clock_bits reads_past b w) (edge reads_past θ w ∷ [])
  clock-shows w =
      and-shows (invert_shows w.inverted (curr-shows (w.net ∷ [])))
      (not-shows (invert_shows w.inverted (past-shows (w.net ∷ []))))

  -- A cell of two operands.
  binary-shows : (o : Binary) {n : ℕ} {x y u v : Bits} {ts us : List Trit} → Shown n x y ts → Shown n u v us
      → BitsShow (cells.binary_width o n) (binary_bits o (tb x y) (tb u v) n) (r.binary o ts us)
  binary-shows cells.and p q = and-shows p q
  binary-shows cells.or p q = or-shows p q
  binary-shows cells.xor p q = xor-shows p q
  binary-shows cells.eq p q = equals_shows p q
  binary-shows cells.ult p q = ult_shows p q
  binary-shows cells.slt p q = slt_shows p q
  binary-shows cells.mul p q = mul_shows p q
  binary-shows cells.udiv p q = udiv_shows p q
  binary-shows cells.umod p q = umod_shows p q
  binary-shows cells.sdiv_trunc p q = sdiv_shows p q
  binary-shows cells.smod_trunc p q = smod_shows p q

  -- ---- shifts

  -- Nets filled up with one net.
  padded_shows : (nets : List Net) (j : ℕ) (fill : Net) (w : ℕ) → length nets + j ≡ w
      → BitsShow w (value (nets ++ replicate j fill)) (map reading nets ++ replicate j (reading fill))
  padded_shows nets j fill w e =
      rw (
        width,
        map-append reading nets (replicate j fill)
            ∙ ap (λ (l : List Trit). map reading nets ++ l) (map-replicate reading j fill),
      )
      at (value-shows (nets ++ replicate j fill))
    where
      width : length (nets ++ replicate j fill) ≡ w
      width = length-append nets (replicate j fill) ∙ ap (λ (k : ℕ). length nets + k) (length-replicate j fill) ∙ e

  wide_enough : (n m stride : ℕ) → (n ≤ shift_width n m stride) × (m + ilog2 (max stride 1) + 1 ≤ shift_width n m stride)
  unfolding shift_width
  wide_enough n m stride = omega arith

  -- A shift whose lanes, k places off, are f k.
  module _ (on_x on_y : BinaryOp) (signed : Bool) (n : ℕ) (nets amount : List Net) (stride : ℕ) where
    abbrev w : ℕ
    w = shift_width (length nets) (length amount) stride

    abbrev wider : TritBits
    wider = value (extended signed nets w)

    abbrev places : List Trit
    places = map reading amount

    pub shifted-shows : (ts : List Trit) (f : ℕ → ℕ → Trit) → 0 < n → n ≤ length nets → BitsShow w wider ts
        → Keeps on_x → Keeps on_y
        → ((by : Bits) (i : ℕ) → i < n
        → shows (get_or (denote_op on_x wider.x by) i false) (get_or (denote_op on_y wider.y by) i false)
        ≡ f (bv2nat by) i)
        → BitsShow n (shifted_bits reads_past b on_x on_y signed n nets amount stride)
        (cond (any_x places) (replicate n Undef) (tab n (f (number places * stride))))
    unfolding shifted_bits shift_bits extract_bits
    shifted-shows ts f some le p lx ly h =
        let e = wide_enough (length nets) (length amount) stride in
        let j = w - length amount in
        let amount_bits = value (zext amount w) in
        let by = bvmul amount_bits.y (nat2bv w stride) in
        let q = padded_shows amount j (constant Zero) w (omega arith) in
        rw (zero-x q, any_x-zeros places j)
        (moved_shows n w (denote_op on_x wider.x by) (denote_op on_y wider.y by) (any_x places)
        (f (number places * stride)) some (omega arith)
        (lx wider.x by ∙ shown-x p) (ly wider.y by ∙ shown-y p)
        λ u i l. h by i l ∙ ap (λ (k : ℕ). f k i)
        (by_number w amount_bits.x amount_bits.y places j stride q (rw (length-map amount reading) e.1) u))

  module _ (nets amount : List Net) (stride : ℕ) (some : 0 < length nets) where
    abbrev n : ℕ
    n = length nets

    abbrev top : ℕ
    top = shift_width n (length amount) stride

    abbrev ts : List Trit
    ts = map reading nets

    abbrev by_rule : Shift → Type 0
    by_rule o = BitsShow n (shift_cell_bits reads_past b o nets amount stride) (r.shift o ts (map reading amount) stride)

    filled : n + (top - n) ≡ top
    filled = let e = wide_enough n (length amount) stride in omega arith

    below : (i : ℕ) → i < n → i < top
    below i h = let e = filled in omega arith

    shl_shows : by_rule cells.shl
    unfolding shift_cell_bits
    shl_shows =
        let p = padded_shows nets (top - n) (constant Zero) top filled in
        rw (length-map nets reading)
        (shifted-shows _ _ false n nets amount stride _ (λ k i. cond (ltb i k) Zero (get_or ts (i - k) Zero)) some
        (omega arith) p
        length-bvshl length-bvshl λ by i h. shl_lanes ts (top - n) p by i (below i h))

    ushr_shows : by_rule cells.ushr
    unfolding shift_cell_bits
    ushr_shows =
        let p = padded_shows nets (top - n) (constant Zero) top filled in
        rw (length-map nets reading)
        (shifted-shows _ _ false n nets amount stride _ (λ k i. get_or ts (i + k) Zero) some (omega arith) p
        length-bvlshr length-bvlshr λ by i h. lshr_lanes ts (top - n) p by i (below i h))

    sshr_shows : by_rule cells.sshr
    unfolding shift_cell_bits
    sshr_shows =
        let fill = get_or nets (n - 1) (constant Undef) in
        let p = padded_shows nets (top - n) fill top filled in
        let e : get_or ts (n - 1) Undef ≡ reading fill = get_or-map reading nets (n - 1) (constant Undef) in
        let same : get_or ts (length ts - 1) (reading fill) ≡ reading fill =
        ap (λ (k : ℕ). get_or ts (k - 1) (reading fill)) (length-map nets reading)
        ∙ get_d_any ts (n - 1) (reading fill) Undef (rw (length-map nets reading) (omega arith)) ∙ e in
        rw (length-map nets reading, e)
        (shifted-shows _ _ true n nets amount stride _ (λ k i. get_or ts (i + k) (reading fill)) some (omega arith) p
        length-bvashr length-bvashr λ by i h.
        ashr_lanes ts (top - n) (reading fill) p (rw (length-map nets reading) some) same by i (below i h))

  -- XShr has an X on top of its value.
  xshr_shows : (nets amount : List Net) (stride : ℕ) → 0 < length nets
      → BitsShow (length nets) (shift_cell_bits reads_past b cells.xshr nets amount stride)
      (r.shift cells.xshr (map reading nets) (map reading amount) stride)
  unfolding shift_cell_bits
  xshr_shows nets amount stride some =
      let topped = nets ++ (constant Undef ∷ []) in
      let trits = map reading nets in
      let w = shift_width (length topped) (length amount) stride in
      let e = wide_enough (length topped) (length amount) stride in
      let l : length topped ≡ length nets + 1 = length-append nets (constant Undef ∷ []) in
      let last : get_or topped (length topped - 1) (constant Undef) ≡ constant Undef = on_top nets (constant Undef) in
      let p : BitsShow w (value (extended true topped w)) ((trits ++ (Undef ∷ [])) ++ replicate
      (w - length topped) Undef) =
      rw last (rw (map-append reading nets (constant Undef ∷ [])) at
      (padded_shows topped (w - length topped) (constant Undef) w (omega arith))) in
      rw (length-map nets reading)
      (shifted-shows _ _ true (length nets) topped amount stride _ (λ k i. get_or trits (i + k) Undef) some
      (omega arith) p
      length-bvashr length-bvlshr λ by i h.
      xshr_lanes (trits ++ (Undef ∷ [])) (w - length topped) p (simp length-append (omega arith))
      (on_top trits Undef) by i (omega arith)
      ∙ get_d_pad trits 1 Undef (i + bv2nat by))
    where
      on_top : {A : Type 0} (l : List A) (d : A) → get_or (l ++ (d ∷ [])) (length (l ++ (d ∷ [])) - 1) d ≡ d
      on_top l d =
          get_d_pad l 1 d (length (l ++ (d ∷ [])) - 1)
          ∙ get_or-eq_default l d {n = length (l ++ (d ∷ [])) - 1} (simp length-append (omega arith))

  shift-shows : (o : Shift) (nets amount : List Net) (stride : ℕ) → 0 < length nets
      → BitsShow (length nets) (shift_cell_bits reads_past b o nets amount stride)
      (r.shift o (map reading nets) (map reading amount) stride)
  shift-shows cells.shl = shl_shows
  shift-shows cells.ushr = ushr_shows
  shift-shows cells.sshr = sshr_shows
  shift-shows cells.xshr = xshr_shows

  -- ---- Match

  -- The product so far, and the rest of the pattern.
  product-shows : (nets : List Net) (pattern : List Trit) {p : TritBits} (u : Trit) → BitsShow 1 p (u ∷ [])
      → BitsShow 1 (product_bits reads_past b nets pattern p) (t.and u (r.alternate (map reading nets) pattern) ∷ [])
  unfolding product_bits r.alternate
  product-shows [] pattern u h = rw (and_one u) h
  product-shows (v ∷ nets) [] u h = rw (and_one u) h
  product-shows (v ∷ nets) (Undef ∷ pattern) u h = product-shows nets pattern u h
  product-shows (v ∷ nets) (Zero ∷ pattern) u h =
      rw (not-xor-zero (reading v), and_assoc u (t.not (reading v)) (r.alternate (map reading nets) pattern))
      at (product-shows nets pattern _ (and-shows h (not-shows
      (xor-shows (value-shows (v ∷ [])) (value-shows (constant Zero ∷ []))))))
  product-shows (v ∷ nets) (One ∷ pattern) u h =
      rw (not-xor-one (reading v), and_assoc u (reading v) (r.alternate (map reading nets) pattern))
      at (product-shows nets pattern _ (and-shows h (not-shows
      (xor-shows (value-shows (v ∷ [])) (value-shows (constant One ∷ []))))))

  -- The sum so far, and the other alternates.
  sum-shows : (nets : List Net) (alternates : List (List Trit)) {p : TritBits} (u : Trit) → BitsShow 1 p (u ∷ [])
      → BitsShow 1 (sum_bits reads_past b nets alternates p) (t.or u (r.matches (map reading nets) alternates) ∷ [])
  unfolding sum_bits r.matches
  sum-shows nets [] u h = rw (or-zero u) h
  sum-shows nets (pattern ∷ alternates) u h =
      rw (or_assoc u (r.alternate (map reading nets) pattern) (r.matches (map reading nets) alternates))
      at (sum-shows nets alternates _ (or-shows h (product-shows nets pattern One (lit-shows (One ∷ [])))))

  matches_show : (nets : List Net) (patterns : List (List (List Trit)))
      → Singles (map (λ alternates. sum_bits reads_past b nets alternates (lit_bits (Zero ∷ []))) patterns)
      (map (r.matches (map reading nets)) patterns)
  matches_show nets [] = none
  matches_show nets (alternates ∷ patterns) = more (sum-shows nets alternates Zero (lit-shows (Zero ∷ [])))
      (matches_show nets patterns)

  -- From the index-th pattern down to the first.
  first-shows : (k : ℕ) (ms : List Trit) {m : TritBits} → BitsShow k m ms → (index : ℕ) {p : TritBits} → index ≤ k
      → BitsShow k p (r.first_hot k index (drop index ms)) → BitsShow k (first_bits m k index p) (r.first_hot k 0 ms)
  unfolding first_bits r.first_hot
  first-shows k ms hm zero l h = h
  first-shows k ms hm (suc index) l h =
      first-shows k ms hm index (omega arith)
      (rw (drop-cons ms index Zero (let e = shown_ts hm in omega arith))
      (mux-shows (extract-shows hm index Zero (omega arith))
      (rw (length-tab k (λ j. t.trit (eqb j index))) at (lit-shows (one_hot k index))) h))

  match-shows : (nets : List Net) (enable : Net) (patterns : List (List (List Trit)))
      → BitsShow (length patterns) (match_bits reads_past b nets enable patterns)
      (r.match (map reading nets) (reading enable) patterns)
  unfolding match_bits r.first_hot
  match-shows nets enable patterns =
      let k = length patterns in
      let ms = map (r.matches (map reading nets)) patterns in
      let cold : BitsShow k (lit_bits (replicate k Zero)) (replicate k Zero) =
      rw (length-replicate k Zero) at (lit-shows (replicate k Zero)) in
      let m = rw (length-map patterns (λ alternates. sum_bits reads_past b nets alternates (lit_bits (Zero ∷ [])))) at
      (concat-shows (matches_show nets patterns)) in
      let none_left : drop k ms ≡ [] = drop_of_length-le ms {i = k}
      (rw (length-map patterns (r.matches (map reading nets))) (omega arith)) in
      mux-shows (value-shows (enable ∷ [])) (first-shows k ms m k (omega arith) (rw none_left cold)) cold

  -- ---- Assign and Dff

  mux-nets : (sel : Net) (x y : List Net) (n : ℕ) → length x ≡ n → length y ≡ n
      → BitsShow n (mux_bits (net_bit reads_past b sel) (value x) (value y))
      (r.mux (reading sel) (map reading x) (map reading y))
  mux-nets sel x y n ex ey = mux-shows (value-shows (sel ∷ [])) (rw ex at (value-shows x)) (rw ey at (value-shows y))

  overwritten-read : (nets : List Net) (offset : ℕ) (update : List Net)
      → map reading (overwritten nets offset update) ≡ r.overwrite (map reading nets) offset (map reading update)
  overwritten-read nets offset update =
      rw (
        map-append reading (take offset nets) (update ++ drop (offset + length update) nets),
        map-append reading update (drop (offset + length update) nets),
        map-take reading offset nets,
        map-drop reading (offset + length update) nets,
        length-map update reading,
      )

  -- The past trits of the output's slots.
  output-shows : (s w : ℕ) → BitsShow w (past_bits reads_past b (output_nets s w)) (map θ.was (outputs s w))
  output-shows s w =
      rw (
        length-tab w (λ i. slot (s + i)),
        map-tab (of_net θ.was) w (λ i. slot (s + i))
            ∙ sym (map-tab θ.was w (λ i. s + i)),
      )
      at (past-shows (output_nets s w))

  module _ (f : FlipFlop) (s : ℕ) (ec : length f.clear_value ≡ length f.dat)
      (er : length f.reset_value ≡ length f.dat) where
    abbrev width : ℕ
    width = length f.dat

    abbrev given : r.FlipFlopInputs
    given = flip_flop_inputs reads_past θ f (outputs s width)

    loaded-shows : (flag : Bool) → BitsShow width (loaded_bits reads_past b flag f (output_nets s width))
        (cond flag (r.mux given.reset given.reset_value (r.mux given.enable given.dat given.past))
        (r.mux given.enable (r.mux given.reset given.reset_value given.dat) given.past))
    loaded-shows true =
        mux-shows (control-shows f.reset) (rw er at (lit-shows f.reset_value))
        (mux-shows (control-shows f.enable) (value-shows f.dat) (output-shows s width))
    loaded-shows false =
        mux-shows (control-shows f.enable)
        (mux-shows (control-shows f.reset) (rw er at (lit-shows f.reset_value)) (value-shows f.dat))
        (output-shows s width)

    clocked-shows : BitsShow width (clocked_bits reads_past b f (output_nets s width)) (r.clocked given)
    clocked-shows = mux-shows (clock-shows f.clock) (loaded-shows _) (output-shows s width)

    cleared-shows : (flag : Bool) {p : TritBits} {ts : List Trit} → BitsShow width p ts
        → BitsShow width (cleared_bits reads_past b flag f p) (cond flag (r.mux given.clear given.clear_value ts) ts)
    cleared-shows true h = mux-shows (control-shows f.clear) (rw ec at (lit-shows f.clear_value)) h
    cleared-shows false h = h

    dff-shows : BitsShow width (cleared_bits reads_past b (has_clear f) f (clocked_bits reads_past b f (output_nets s width)))
        (r.dff given)
    dff-shows = rw (ap not (never f.clear.inverted f.clear.net)) (cleared-shows (rule.has_clear f) clocked-shows)
      where
        never : (inverted : Bool) (n : Net) → is_always_inactive inverted n ≡ inactive inverted n
        never true (constant Zero) = refl
        never true (constant One) = refl
        never true (constant Undef) = refl
        never true (slot i) = refl
        never false (constant Zero) = refl
        never false (constant One) = refl
        never false (constant Undef) = refl
        never false (slot i) = refl

  -- ---- every cell

  -- With no operand bits the carry is all there is.
  adc-none : (u : Trit) → r.adc [] [] u ≡ u ∷ []
  unfolding tab number any_x
  adc-none Zero = refl
  adc-none One = refl
  adc-none Undef = refl

  adc-cell-shows : (x y : List Net) (carry : Net) → length y ≡ length x
      → BitsShow (length x + 1) (adc_cell_bits reads_past b x y carry)
      (r.adc (map reading x) (map reading y) (reading carry))
  adc-cell-shows [] [] carry e = rw (adc-none (reading carry)) (value-shows (carry ∷ []))
  adc-cell-shows [] (m ∷ y) carry e = absurd (omega arith)
  adc-cell-shows (n ∷ x) y carry e =
      rw (add-one (length (n ∷ x)), ← (net-shows carry)) (adc-shows _ _ (value-shows (n ∷ x)) (rw e at (value-shows y)))

  pub cell-bits_show : (s : ℕ) (d : Cell) → Shaped d → NotInput d → 0 < output_len d
      → BitsShow (output_len d) (cell_bits reads_past b s (output_len d) d)
      (cell_rule reads_past θ (outputs s (output_len d)) d)
  cell-bits_show s cells.void h terms some = absurd (omega arith)
  cell-bits_show s cells.note h terms some = absurd (omega arith)
  cell-bits_show s (cells.input n) h terms some = absurd (terms n refl)
  cell-bits_show s (cells.io_buf n) h terms some =
      rw (
        length-tab n (λ i. slot (s + i)),
        map-tab reading n (λ i. slot (s + i))
            ∙ sym (map-tab (as_read reads_past θ) n (λ i. s + i)),
      )
      at (value-shows (output_nets s n))
  cell-bits_show s (cells.unary cells.buf x) h terms some = value-shows x
  cell-bits_show s (cells.unary cells.inverter x) h terms some = not-shows (value-shows x)
  cell-bits_show s (cells.binary o x y) h terms some = binary-shows o (value-shows x) (rw h.0 at (value-shows y))
  cell-bits_show s (cells.mux sel x y) h terms some = mux-nets sel x y (length x) refl h
  cell-bits_show s (cells.adc x y carry) h terms some = adc-cell-shows x y carry h
  cell-bits_show s (cells.aig x y) h terms some = and-shows (control-shows x) (control-shows y)
  cell-bits_show s (cells.shift o nets amount stride) h terms some = shift-shows o nets amount stride some
  cell-bits_show s (cells.match nets enable patterns) h terms some = match-shows nets enable patterns
  cell-bits_show s (cells.assign nets enable update offset) h terms some =
      rw (← (overwritten-read nets offset update))
      (mux-nets enable (overwritten nets offset update) nets (length nets)
      (length-overwritten nets offset update h) refl)
  cell-bits_show s (cells.dff f) h terms some = dff-shows f s h.0 h.1

terms_show : (ρ : Assignment) (v : ℕ → Value) (n : ℕ) (r : TritVec) (a : TritBits) (ts : List Trit) → Is ρ v r a
    → BitsShow n a ts
    → TermsShow v r ts
terms_show ρ v n r a ts is shown =
    let ex : as_bits (v r.x.term) ≡ a.x = ap as_bits is.0 in
    let ey : as_bits (v r.y.term) ≡ a.y = ap as_bits is.1 in
    record {
      x-width = ap length ex ∙ shown-x shown ∙ sym (shown_ts shown);
      y-width = ap length ey ∙ shown-y shown ∙ sym (shown_ts shown);
      trits = ap₂ (zip_with shows) ex ey ∙ shown-is shown;
    }

-- Requirement 2, for a cell of any operation and every width: whatever the assignment is, the terms of the cell show
-- the trits of the cell's rule on the trits that the names of its nets show. The calls may stand anywhere in a list,
-- after any state of the builder whose known names have their terms.
pub cell-shows : (reads_past : ℕ → Bool) (s : ℕ) (d : Cell) → Shaped d → NotInput d → 0 < output_len d
    → (ρ : Assignment) (v : ℕ → Value) (st : St) (rest : List Call) → Known ρ v st.names
    → Holds ρ v st.next ((emit (cell reads_past s (output_len d) d) st).calls ++ rest)
    → Sound ρ v (emit (cell reads_past s (output_len d) d) st).res
    (emit (cell reads_past s (output_len d) d) st).st rest
    (λ r. TermsShow v r (cell_rule reads_past (trits_of (net_bits ρ)) (outputs s (output_len d)) d))
cell-shows reads_past s d shaped terms some ρ v st rest names holds =
    wp_sound ρ v (cell reads_past s (output_len d) d) st _ rest names holds
    (wp_mono ρ v (cell reads_past s (output_len d) d) _ _
    (λ r is. terms_show ρ v (output_len d) r _ _ is (cell-bits_show reads_past (net_bits ρ) s d shaped terms some))
    (cell-wp reads_past ρ v s d shaped terms some))
