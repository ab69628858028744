-- Every cell of an accepted list makes well-formed calls, and its two terms have the cell's output width.
use mathlib.Core.Path.{◌≡◌, refl}
use mathlib.Core.Bool.{Bool, true, false, not, cond}
use mathlib.Core.List.{List, [], ◌∷◌, ◌++◌}
use Prim.Native.Nat.{ℕ, zero, suc, ◌+◌, ◌-◌, ◌^◌, ◌≤◌, ◌<◌}
use native.Mathlib.Nat.{le_trans}
use native.Mathlib.Numerals.{add-one}
use native.Mathlib.Omega.{arith}
use lib.Dec.{eqb}
use lib.ListN.{length, get_or, take, drop, replicate, length-append, length-replicate}
use Rattle.logic.specs.Net.{Net, constant, slot}
use Rattle.logic.specs.Table.{tab}
use Rattle.logic.proofs.TableLaws.{length-tab}
use Rattle.logic.specs.declared.Trit.{Trit}
use Rattle.logic.specs.declared.Trit.TheVariants.{Zero, One, Undef}
use Rattle.bitvec.proofs.Laws.{length-nat2bv}
use Rattle.engine.specs.Call.{BinaryOp}
use Rattle.engine.specs.Call as c
use Rattle.engine.specs.Sorts.{Sort}
use Rattle.cell.specs.Cell.{Cell, Control, FlipFlop, Shift, binary_width, output_len}
use Rattle.cell.specs.Cell as cells
use Rattle.cell.specs.Each.{Each}
use Rattle.right.specs.Bounds.{Bounded}
use Rattle.right.specs.Nets.{nets_of}
use Rattle.right.specs.Shape.{Shaped}
use Rattle.smt.specs.Prog.{◌>>=◌, curr, past, TritVec}
use Rattle.smt.specs.Builder.{tv_lit, tv_bind, tv_extract, tv_not, tv_or, tv_xor, tv_mux, tv_concat, collect, value_of, curr_net}
use Rattle.smt.specs.Builder.{past_net, invert_net, clock_net, tv_shift, output_nets, one_hot, overwritten, has_clear}
use Rattle.smt.specs.Builder.{shift_width, zext, extended, first_match, net, control_net, prepare_at, prepare_shift, shifted}
use Rattle.smt.specs.Builder.{compared, product, sum, match_of, match_cell, enabled, reset_to, loaded, cleared, dff_cell}
use Rattle.smt.specs.Builder.{adc_cell, cell}
use Rattle.smt.proofs.ShowsShift.{shift_width-narrow}
use Rattle.smt.specs.CellBits.{NotInput}
use Rattle.smt.proofs.CellBitsLaws.{wide, length-overwritten}
use Rattle.soundness.proofs.Safe.{Width, safe, safe_seq, TritsOf, tv_bind_safe, tv_lit_safe, tv_not_safe}
use Rattle.soundness.proofs.Safe.{tv_xor_safe, tv_and_safe, tv_or_safe, tv_mux_safe, tv_extract_safe, invert_net_safe}
use Rattle.soundness.proofs.Safe.{Within, net_of_safe, collect_safe, tv_concat_safe, value_of_safe, tv_binary_safe}
use Rattle.soundness.proofs.Safe.{PreparedOf, Keeps, tv_shift_safe, tv_adc_safe}

-- ---- lists of nets within

module _ {A : Type 0} (P : A → Type 0) where
  pub each_left : (l m : List A) → Each P (l ++ m) → Each P l
  each_left [] m h = tt
  each_left (a ∷ l) m h = (h.0, each_left l m h.1)

  pub each_right : (l m : List A) → Each P (l ++ m) → Each P m
  each_right [] m h = h
  each_right (a ∷ l) m h = each_right l m h.1

  pub each_append : (l m : List A) → Each P l → Each P m → Each P (l ++ m)
  each_append [] m h k = k
  each_append (a ∷ l) m h k = (h.0, each_append l m h.1 k)

  each-replicate : (n : ℕ) (a : A) → P a → Each P (replicate n a)
  each-replicate zero a h = tt
  each-replicate (suc n) a h = (h, each-replicate n a h)

  each_at : (l : List A) (i : ℕ) (d : A) → P d → Each P l → P (get_or l i d)
  each_at [] i d h k = h
  each_at (a ∷ l) zero d h k = k.0
  each_at (a ∷ l) (suc i) d h k = each_at l i d h k.1

  each_take : (n : ℕ) (l : List A) → Each P l → Each P (take n l)
  each_take zero l h = tt
  each_take (suc n) [] h = tt
  each_take (suc n) (a ∷ l) h = (h.0, each_take n l h.1)

  each-drop : (n : ℕ) (l : List A) → Each P l → Each P (drop n l)
  each-drop zero l h = h
  each-drop (suc n) [] h = tt
  each-drop (suc n) (a ∷ l) h = each-drop n l h.1

  each-tab : (n : ℕ) (f : ℕ → A) → ((i : ℕ) → i < n → P (f i)) → Each P (tab n f)
  unfolding tab
  each-tab zero f h = tt
  each-tab (suc n) f h = (h 0 (omega arith), each-tab n (λ i. f (suc i)) (λ i l. h (suc i) (omega arith)))

module _ (slots : ℕ) (σ : ℕ → Sort) (reads_past : ℕ → Bool) where
  abbrev Tv : ℕ → ℕ → TritVec → Type 0
  Tv = TritsOf slots σ

  abbrev In : Net → Type 0
  In = Within slots σ

  pub net_safe : (n : ℕ) (m : Net) → In m → safe slots σ n (net reads_past m) (Tv 1)
  unfolding net
  net_safe n (constant t) h = net_of_safe slots σ n curr (constant t) h
  net_safe n (slot i) h = go (reads_past i)
    where
      go : (p : Bool) → safe slots σ n (cond p (past_net (slot i)) (curr_net (slot i))) (Tv 1)
      go true = net_of_safe slots σ n past (slot i) h
      go false = net_of_safe slots σ n curr (slot i) h

  pub value_safe : (n : ℕ) (nets : List Net) → Width (length nets) → Each In nets
      → safe slots σ n (value_of (net reads_past) nets) (Tv (length nets))
  value_safe = value_of_safe slots σ (net reads_past) net_safe

  pub output-within : (s w : ℕ) → s + w ≤ slots → Each In (output_nets s w)
  output-within s w h = each-tab In w (λ i. slot (s + i)) (λ i l. omega arith)

  past_safe : (n s w : ℕ) → Width w → s + w ≤ slots → safe slots σ n (value_of past_net (output_nets s w)) (Tv w)
  past_safe n s w h l =
      rw (length-tab w (λ i. slot (s + i)))
      at (value_of_safe slots σ past_net (λ n m i. net_of_safe slots σ n past m i) n (output_nets s w)
      (rw (length-tab w (λ i. slot (s + i))) h) (output-within s w l))

  control_net_safe : (n : ℕ) (w : Control) → In w.net → safe slots σ n (control_net reads_past w) (Tv 1)
  unfolding control_net
  control_net_safe n w h =
      safe_seq slots σ n (net reads_past w.net) _ (Tv 1) (Tv 1) (net_safe n w.net h) λ i a li g.
      invert_net_safe slots σ i w a g

  clock_net_safe : (n : ℕ) (w : Control) → In w.net → safe slots σ n (clock_net w) (Tv 1)
  unfolding clock_net
  clock_net_safe n w h =
      safe_seq slots σ n (curr_net w.net) _ (Tv 1) (Tv 1) (net_of_safe slots σ n curr w.net h) λ i1 r1 l1 g1.
      safe_seq slots σ i1 (invert_net w r1) _ (Tv 1) (Tv 1) (invert_net_safe slots σ i1 w r1 g1) λ i2 r2 l2 g2.
      safe_seq slots σ i2 (past_net w.net) _ (Tv 1) (Tv 1) (net_of_safe slots σ i2 past w.net h) λ i3 r3 l3 g3.
      safe_seq slots σ i3 (invert_net w r3) _ (Tv 1) (Tv 1) (invert_net_safe slots σ i3 w r3 g3) λ i4 r4 l4 g4.
      safe_seq slots σ i4 (tv_not r4) _ (Tv 1) (Tv 1) (tv_not_safe slots σ i4 1 r4 (omega arith) g4) λ i5 r5 l5 g5.
      tv_and_safe slots σ i5 1 r2 r5 (omega arith) (omega arith) g5

  -- ---- shifts

  length-zext : (nets : List Net) (w : ℕ) → length nets ≤ w → length (zext nets w) ≡ w
  length-zext nets w h = simp (length-append, length-replicate) (omega arith)

  length-extended : (signed : Bool) (nets : List Net) (w : ℕ) → length nets ≤ w → length (extended signed nets w) ≡ w
  length-extended true nets w h = simp (length-append, length-replicate) (omega arith)
  length-extended false nets w h = length-zext nets w h

  zext-within : (nets : List Net) (w : ℕ) → Each In nets → Each In (zext nets w)
  zext-within nets w h = each_append In nets _ h (each-replicate In (w - length nets) (constant Zero) tt)

  extended-within : (signed : Bool) (nets : List Net) (w : ℕ) → Each In nets → Each In (extended signed nets w)
  extended-within true nets w h =
      each_append In nets _ h (each-replicate In (w - length nets) _
      (each_at In nets (length nets - 1) (constant Undef) tt h))
  extended-within false nets w h = zext-within nets w h

  prepare_at_safe : (n w : ℕ) (nets amount : List Net) (stride : ℕ) → Width w → length nets ≡ w → length amount ≡ w
      → Each In nets
      → Each In amount → safe slots σ n (prepare_at reads_past w nets amount stride) (λ m p. PreparedOf slots σ w m p)
  unfolding prepare_at ◌>>=◌
  prepare_at_safe n w nets amount stride h en em wn wm =
      let l = length-nat2bv w stride in
      safe_seq slots σ n (value_of (net reads_past) nets) _ (Tv w) (λ m p. PreparedOf slots σ w m p)
      (rw en at (value_safe n nets (rw en h) wn)) λ i v li gv.
      safe_seq slots σ i (value_of (net reads_past) amount) _ (Tv w) (λ m p. PreparedOf slots σ w m p)
      (rw em at (value_safe i amount (rw em h) wm)) λ j a lj ga. (
        omega arith,
        λ d. (
          omega arith,
          λ e. record {
            width = refl;
            value = omega arith;
            amount =
                omega arith;
            amount_mul = omega arith;
          },
        ),
      )

  shifted_safe : (on_x on_y : BinaryOp) (signed : Bool) (n v : ℕ) (nets amount : List Net) (stride : ℕ)
      → Keeps slots σ on_x → Keeps slots σ on_y
      → 0 < v → v ≤ length nets → length nets ≤ 64 → length amount ≤ 32 → stride < 2 ^ 29 → Each In nets
      → Each In amount
      → safe slots σ n (prepare_shift reads_past nets amount stride signed >>= tv_shift on_x on_y v) (Tv v)
  shifted_safe on_x on_y signed n v nets amount stride kx ky s l hn hm hs wn wm =
      let w = shift_width (length nets) (length amount) stride in
      let u = shift_width-narrow (length nets) (length amount) stride hn hm hs in
      let e : (length nets ≤ w) × (length amount ≤ w) = unfold shift_width in (omega arith) in
      safe_seq slots σ n (prepare_shift reads_past nets amount stride signed) _ (λ m p. PreparedOf slots σ w m p) (Tv v)
      (prepare_at_safe n w (extended signed nets w) (zext amount w) stride (omega arith)
      (length-extended signed nets w e.0)
      (length-zext amount w e.1) (extended-within signed nets w wn) (zext-within amount w wm))
      λ i p li g. tv_shift_safe slots σ on_x on_y i w v p kx ky (omega arith) s (omega arith) g

  shift_cell_safe : (o : Shift) (n : ℕ) (nets amount : List Net) (stride : ℕ) → 0 < length nets → length nets ≤ 63
      → length amount ≤ 32
      → stride < 2 ^ 29 → Each In nets → Each In amount → safe slots σ n (shifted reads_past o nets amount stride)
      (Tv (length nets))
  unfolding shifted
  shift_cell_safe cells.shl n nets amount stride s hn hm hs wn wm =
      shifted_safe c.bvshl c.bvshl false n (length nets) nets amount stride (λ w. (refl, refl)) (λ w. (refl, refl)) s
      (omega arith) (omega arith) hm hs wn wm
  shift_cell_safe cells.ushr n nets amount stride s hn hm hs wn wm =
      shifted_safe c.bvlshr c.bvlshr false n (length nets) nets amount stride (λ w. (refl, refl))
      (λ w. (refl, refl)) s (omega arith) (omega arith) hm hs wn wm
  shift_cell_safe cells.sshr n nets amount stride s hn hm hs wn wm =
      shifted_safe c.bvashr c.bvashr true n (length nets) nets amount stride (λ w. (refl, refl)) (λ w. (refl, refl)) s
      (omega arith) (omega arith) hm hs wn wm
  shift_cell_safe cells.xshr n nets amount stride s hn hm hs wn wm =
      let l = length-append nets (constant Undef ∷ []) in
      shifted_safe c.bvashr c.bvlshr true n (length nets) (nets ++ (constant Undef ∷ [])) amount stride
      (λ w. (refl, refl)) (λ w. (refl, refl)) s
      (omega arith) (omega arith) hm hs (each_append In nets (constant Undef ∷ []) wn (tt, tt)) wm

  -- ---- Match

  compared_safe : (n : ℕ) (v : Net) (mask : Trit) (prd : TritVec) → In v → Tv 1 n prd
      → safe slots σ n (compared reads_past v mask prd) (Tv 1)
  unfolding compared
  compared_safe n v mask prd h g =
      safe_seq slots σ n (net reads_past v) _ (Tv 1) (Tv 1) (net_safe n v h) λ i1 r1 l1 g1.
      safe_seq slots σ i1 (net reads_past (constant mask)) _ (Tv 1) (Tv 1) (net_safe i1 (constant mask) tt)
      λ i2 r2 l2 g2.
      safe_seq slots σ i2 (tv_xor r1 r2) _ (Tv 1) (Tv 1) (tv_xor_safe slots σ i2 1 r1 r2 (omega arith) (omega arith) g2)
      λ i3 r3 l3 g3.
      safe_seq slots σ i3 (tv_not r3) _ (Tv 1) (Tv 1) (tv_not_safe slots σ i3 1 r3 (omega arith) g3) λ i4 r4 l4 g4.
      tv_and_safe slots σ i4 1 prd r4 (omega arith) (omega arith) g4

  product_safe : (n : ℕ) (nets : List Net) (pattern : List Trit) (prd : TritVec) → Each In nets → Tv 1 n prd
      → safe slots σ n (product reads_past nets pattern prd) (Tv 1)
  unfolding product
  product_safe n [] pattern prd h g = g
  product_safe n (v ∷ nets) [] prd h g = g
  product_safe n (v ∷ nets) (Undef ∷ pattern) prd h g = product_safe n nets pattern prd h.1 g
  product_safe n (v ∷ nets) (Zero ∷ pattern) prd h g =
      safe_seq slots σ n (compared reads_past v Zero prd) _ (Tv 1) (Tv 1) (compared_safe n v Zero prd h.0 g)
      λ i r l e.
      product_safe i nets pattern r h.1 e
  product_safe n (v ∷ nets) (One ∷ pattern) prd h g =
      safe_seq slots σ n (compared reads_past v One prd) _ (Tv 1) (Tv 1) (compared_safe n v One prd h.0 g) λ i r l e.
      product_safe i nets pattern r h.1 e

  sum_safe : (n : ℕ) (nets : List Net) (alternates : List (List Trit)) (total : TritVec) → Each In nets → Tv 1 n total
      → safe slots σ n (sum reads_past nets alternates total) (Tv 1)
  unfolding sum
  sum_safe n nets [] total h g = g
  sum_safe n nets (pattern ∷ alternates) total h g =
      safe_seq slots σ n (tv_lit (One ∷ [])) _ (Tv 1) (Tv 1) (tv_lit_safe slots σ n (One ∷ []) (omega arith))
      λ i1 r1 l1 g1.
      safe_seq slots σ i1 (product reads_past nets pattern r1) _ (Tv 1) (Tv 1) (product_safe i1 nets pattern r1 h g1)
      λ i2 r2 l2 g2.
      safe_seq slots σ i2 (tv_or total r2 1) _ (Tv 1) (Tv 1)
      (tv_or_safe slots σ i2 1 total r2 (omega arith) (omega arith) g2) λ i3 r3 l3 g3.
      sum_safe i3 nets alternates r3 h g3

  match_of_safe : (nets : List Net) → Each In nets → (n : ℕ) (alternates : List (List Trit))
      → safe slots σ n (match_of reads_past nets alternates) (Tv 1)
  unfolding match_of
  match_of_safe nets h n alternates =
      safe_seq slots σ n (tv_lit (Zero ∷ [])) _ (Tv 1) (Tv 1) (tv_lit_safe slots σ n (Zero ∷ []) (omega arith)) λ i r l g.
      sum_safe i nets alternates r h g

  first_match_safe : (n k : ℕ) (m : TritVec) (index : ℕ) (r : TritVec) → Width k → index ≤ k → Tv k n m → Tv k n r
      → safe slots σ n (first_match m k index r) (Tv k)
  unfolding first_match
  first_match_safe n k m zero r h l gm gr = gr
  first_match_safe n k m (suc index) r h l gm gr =
      let one : suc index - index ≡ 1 = omega arith in
      let width = length-tab k (λ j. cond (eqb j index) One Zero) in
      safe_seq slots σ n (tv_extract index index m) _ (Tv 1) (Tv k)
      (rw one at (tv_extract_safe slots σ n k index index m (omega arith) (omega arith) (omega arith) gm)) λ i1 s l1 g1.
      safe_seq slots σ i1 (tv_lit (one_hot k index)) _ (Tv k) (Tv k)
      (rw width at (tv_lit_safe slots σ i1 (one_hot k index) (rw width h))) λ i2 a l2 g2.
      safe_seq slots σ i2 (tv_mux s a r k) _ (Tv k) (Tv k)
      (tv_mux_safe slots σ i2 k s a r h (omega arith) g2 (omega arith)) λ i3 q l3 g3.
      first_match_safe i3 k m index q h (omega arith) (omega arith) g3

  match_cell_safe : (n : ℕ) (nets : List Net) (enable : Net) (patterns : List (List (List Trit)))
      → Width (length patterns) → Each In nets → In enable
      → safe slots σ n (match_cell reads_past nets enable patterns (length patterns)) (Tv (length patterns))
  unfolding match_cell
  match_cell_safe n nets enable patterns h wn we =
      let k = length patterns in
      let zeros-wide = length-replicate k Zero in
      safe_seq slots σ n (collect (match_of reads_past nets) patterns) _ (λ m ts. Each (Tv 1 m) ts × (length ts ≡ k))
      (Tv k)
      (collect_safe slots σ (match_of reads_past nets) (λ _. Unit {0}) (λ n a _. match_of_safe nets wn n a) n patterns
      (any patterns)) λ i1 ts l1 g1.
      safe_seq slots σ i1 (tv_concat ts) _ (Tv k) (Tv k) (tv_concat_safe slots σ i1 k ts h g1.1 g1.0) λ i2 m l2 g2.
      safe_seq slots σ i2 (tv_bind m k) _ (Tv k) (Tv k) (tv_bind_safe slots σ i2 k m h g2) λ i3 m l3 g3.
      safe_seq slots σ i3 (net reads_past enable) _ (Tv 1) (Tv k) (net_safe i3 enable we) λ i4 e l4 g4.
      safe_seq slots σ i4 (tv_lit (replicate k Zero)) _ (Tv k) (Tv k)
      (rw zeros-wide at (tv_lit_safe slots σ i4 (replicate k Zero) (rw zeros-wide h))) λ i5 cold l5 g5.
      safe_seq slots σ i5 (first_match m k k cold) _ (Tv k) (Tv k)
      (first_match_safe i5 k m k cold h (omega arith) (omega arith) g5) λ i6 r l6 g6.
      tv_mux_safe slots σ i6 k e r cold h (omega arith) g6 (omega arith)
    where
      any : {A : Type 0} (l : List A) → Each (λ _. Unit {0}) l
      any [] = tt
      any (a ∷ l) = (tt, any l)

  -- ---- Assign and Dff

  mux_safe : (n w : ℕ) (sel : Net) (x y : List Net) → Width w → length x ≡ w → length y ≡ w → In sel → Each In x
      → Each In y
      → safe slots σ n
      (net reads_past sel >>= λ s. value_of (net reads_past) x >>= λ p. value_of (net reads_past) y >>= λ q. tv_mux s p q w)
      (Tv w)
  mux_safe n w sel x y h ex ey ws wx wy =
      safe_seq slots σ n (net reads_past sel) _ (Tv 1) (Tv w) (net_safe n sel ws) λ i1 s l1 g1.
      safe_seq slots σ i1 (value_of (net reads_past) x) _ (Tv w) (Tv w) (rw ex at (value_safe i1 x (rw ex h) wx))
      λ i2 p l2 g2.
      safe_seq slots σ i2 (value_of (net reads_past) y) _ (Tv w) (Tv w) (rw ey at (value_safe i2 y (rw ey h) wy))
      λ i3 q l3 g3.
      tv_mux_safe slots σ i3 w s p q h (omega arith) (omega arith) g3

  overwritten-within : (nets : List Net) (offset : ℕ) (update : List Net) → Each In nets → Each In update
      → Each In (overwritten nets offset update)
  overwritten-within nets offset update h u =
      each_append In (take offset nets) _ (each_take In offset nets h)
      (each_append In update _ u (each-drop In (offset + length update) nets h))

  -- A Mux with a constant of the cell's width.
  lit_safe : (n w : ℕ) (value : List Trit) → Width w → length value ≡ w → safe slots σ n (tv_lit value) (Tv w)
  lit_safe n w value h e = rw e at (tv_lit_safe slots σ n value (rw e h))

  enabled_safe : (n : ℕ) (f : FlipFlop) (s w : ℕ) (e d : TritVec) → Width w → s + w ≤ slots → Tv 1 n e → Tv w n d
      → safe slots σ n (enabled reads_past f s w e d) (Tv w)
  unfolding enabled
  enabled_safe n f s w e d h l ge gd =
      safe_seq slots σ n (value_of past_net (output_nets s w)) _ (Tv w) (Tv w) (past_safe n s w h l) λ i r li g.
      tv_mux_safe slots σ i w e d r h (omega arith) (omega arith) g

  reset_to_safe : (n : ℕ) (f : FlipFlop) (w : ℕ) (e d : TritVec) → Width w → length f.reset_value ≡ w → Tv 1 n e
      → Tv w n d
      → safe slots σ n (reset_to reads_past f w e d) (Tv w)
  unfolding reset_to
  reset_to_safe n f w e d h l ge gd =
      safe_seq slots σ n (tv_lit f.reset_value) _ (Tv w) (Tv w) (lit_safe n w f.reset_value h l) λ i r li g.
      tv_mux_safe slots σ i w e r d h (omega arith) g (omega arith)

  loaded_safe : (flag : Bool) (n : ℕ) (f : FlipFlop) (s w : ℕ) (r e d : TritVec) → Width w → s + w ≤ slots
      → length f.reset_value ≡ w
      → Tv 1 n r → Tv 1 n e → Tv w n d → safe slots σ n (loaded reads_past flag f s w r e d) (Tv w)
  unfolding loaded
  loaded_safe true n f s w r e d h l k gr ge gd =
      safe_seq slots σ n (enabled reads_past f s w e d) _ (Tv w) (Tv w) (enabled_safe n f s w e d h l ge gd) λ i q li g.
      reset_to_safe i f w r q h k (omega arith) g
  loaded_safe false n f s w r e d h l k gr ge gd =
      safe_seq slots σ n (reset_to reads_past f w r d) _ (Tv w) (Tv w) (reset_to_safe n f w r d h k gr gd) λ i q li g.
      enabled_safe i f s w e q h l (omega arith) g

  cleared_safe : (flag : Bool) (n : ℕ) (f : FlipFlop) (w : ℕ) (e d : TritVec) → Width w → length f.clear_value ≡ w
      → Tv 1 n e → Tv w n d
      → safe slots σ n (cleared reads_past flag f w e d) (Tv w)
  unfolding cleared
  cleared_safe true n f w e d h l ge gd =
      safe_seq slots σ n (tv_lit f.clear_value) _ (Tv w) (Tv w) (lit_safe n w f.clear_value h l) λ i r li g.
      tv_mux_safe slots σ i w e r d h (omega arith) g (omega arith)
  cleared_safe false n f w e d h l ge gd = gd

  dff_cell_safe : (n : ℕ) (f : FlipFlop) (s : ℕ) → Width (length f.dat) → Shaped (cells.dff f)
      → Each In (nets_of (cells.dff f))
      → s + length f.dat ≤ slots → safe slots σ n (dff_cell reads_past f s (length f.dat)) (Tv (length f.dat))
  unfolding dff_cell
  dff_cell_safe n f s h shaped wn l =
      let w = length f.dat in
      safe_seq slots σ n (value_of (net reads_past) f.dat) _ (Tv w) (Tv w) (value_safe n f.dat h wn.1.1.1.1)
      λ i1 d l1 g1.
      safe_seq slots σ i1 (control_net reads_past f.clear) _ (Tv 1) (Tv w) (control_net_safe i1 f.clear wn.1.0)
      λ i2 c l2 g2.
      safe_seq slots σ i2 (control_net reads_past f.reset) _ (Tv 1) (Tv w)
      (control_net_safe i2 f.reset wn.1.1.0) λ i3 r l3 g3.
      safe_seq slots σ i3 (control_net reads_past f.enable) _ (Tv 1) (Tv w)
      (control_net_safe i3 f.enable wn.1.1.1.0) λ i4 e l4 g4.
      safe_seq slots σ i4 (loaded reads_past f.reset_over_enable f s w r e d) _ (Tv w) (Tv w)
      (loaded_safe f.reset_over_enable i4 f s w r e d h l shaped.1 (omega arith) g4 (omega arith)) λ i5 q l5 g5.
      safe_seq slots σ i5 (clock_net f.clock) _ (Tv 1) (Tv w) (clock_net_safe i5 f.clock wn.0) λ i6 k l6 g6.
      safe_seq slots σ i6 (value_of past_net (output_nets s w)) _ (Tv w) (Tv w) (past_safe i6 s w h l) λ i7 o l7 g7.
      safe_seq slots σ i7 (tv_mux k q o w) _ (Tv w) (Tv w)
      (tv_mux_safe slots σ i7 w k q o h (omega arith) (omega arith) g7) λ i8 p l8 g8.
      cleared_safe (has_clear f) i8 f w c p h shaped.0 (omega arith) g8

  -- ---- every cell

  adc_cell_safe : (n : ℕ) (x y : List Net) (carry : Net) → length x ≤ 63 → length y ≡ length x → Each In x → Each In y
      → In carry
      → safe slots σ n (adc_cell reads_past x y carry) (Tv (length x + 1))
  unfolding adc_cell
  adc_cell_safe n [] y carry h e wx wy wc = net_safe n carry wc
  adc_cell_safe n (m ∷ x) y carry h e wx wy wc =
      let w = length (m ∷ x) in
      rw (add-one w)
      (safe_seq slots σ n (value_of (net reads_past) (m ∷ x)) _ (Tv w) (Tv (suc w))
      (value_safe n (m ∷ x) (omega arith) wx) λ i1 p l1 g1.
      safe_seq slots σ i1 (value_of (net reads_past) y) _ (Tv w) (Tv (suc w))
      (rw e at (value_safe i1 y (omega arith) wy)) λ i2 q l2 g2.
      safe_seq slots σ i2 (net reads_past carry) _ (Tv 1) (Tv (suc w)) (net_safe i2 carry wc) λ i3 r l3 g3.
      tv_adc_safe slots σ i3 w p q r (omega arith) h (omega arith) (omega arith) g3)

  -- A cell with its shape, its widths within bounds, and its nets and output among the slots.
  pub cell_safe : (n s : ℕ) (d : Cell) → Shaped d → NotInput d → 0 < output_len d → Bounded d → Each In (nets_of d)
      → s + output_len d ≤ slots
      → safe slots σ n (cell reads_past s (output_len d) d) (Tv (output_len d))
  unfolding cell
  cell_safe n s cells.void h terms some b wn l = absurd (omega arith)
  cell_safe n s cells.note h terms some b wn l = absurd (omega arith)
  cell_safe n s (cells.input m) h terms some b wn l = absurd (terms m refl)
  cell_safe n s (cells.io_buf m) h terms some b wn l =
      rw (length-tab m (λ i. slot (s + i))) at (value_safe n (output_nets s m)
      (rw (length-tab m (λ i. slot (s + i))) (omega arith)) (output-within s m l))
  cell_safe n s (cells.unary cells.buf x) h terms some b wn l = value_safe n x (omega arith) wn
  cell_safe n s (cells.unary cells.inverter x) h terms some b wn l =
      let w = length x in
      safe_seq slots σ n (value_of (net reads_past) x) _ (Tv w) (Tv w) (value_safe n x (omega arith) wn) λ i p li g.
      tv_not_safe slots σ i w p (omega arith) g
  cell_safe n s (cells.binary o x y) h terms some b wn l =
      let w = length x in
      let m = wide o w h.1 some in
      let out = binary_width o w in
      safe_seq slots σ n (value_of (net reads_past) x) _ (Tv w) (Tv out)
      (value_safe n x (omega arith) (each_left In x y wn)) λ i p li g.
      safe_seq slots σ i (value_of (net reads_past) y) _ (Tv w) (Tv out)
      (rw h.0 at (value_safe i y (rw h.0 (omega arith)) (each_right In x y wn))) λ j q lj e.
      tv_binary_safe slots σ o j w p q (omega arith) (omega arith) e
  cell_safe n s (cells.mux sel x y) h terms some b wn l =
      mux_safe n (length x) sel x y (omega arith) refl h wn.0 (each_left In x y wn.1) (each_right In x y wn.1)
  cell_safe n s (cells.adc x y carry) h terms some b wn l =
      let w = each_right In x (y ++ (carry ∷ [])) wn in
      adc_cell_safe n x y carry b h (each_left In x (y ++ (carry ∷ [])) wn) (each_left In y (carry ∷ []) w)
      (each_right In y (carry ∷ []) w).0
  cell_safe n s (cells.aig x y) h terms some b wn l =
      safe_seq slots σ n (control_net reads_past x) _ (Tv 1) (Tv 1) (control_net_safe n x wn.0) λ i p li g.
      safe_seq slots σ i (control_net reads_past y) _ (Tv 1) (Tv 1) (control_net_safe i y wn.1.0) λ j q lj e.
      tv_and_safe slots σ j 1 p q (omega arith) (omega arith) e
  cell_safe n s (cells.shift o nets amount stride) h terms some b wn l =
      shift_cell_safe o n nets amount stride some b.0 b.1 b.2 (each_left In nets amount wn)
      (each_right In nets amount wn)
  cell_safe n s (cells.match nets enable patterns) h terms some b wn l =
      match_cell_safe n nets enable patterns (some, le_trans b.1 (omega arith)) wn.1 wn.0
  cell_safe n s (cells.assign nets enable update offset) h terms some b wn l =
      let wv = each_left In nets update wn.1 in
      mux_safe n (length nets) enable (overwritten nets offset update) nets (some, le_trans b.0 (omega arith))
      (length-overwritten nets offset update h) refl wn.0
      (overwritten-within nets offset update wv (each_right In nets update wn.1)) wv
  cell_safe n s (cells.dff f) h terms some b wn l = dff_cell_safe n f s (some, le_trans b (omega arith)) h wn l
