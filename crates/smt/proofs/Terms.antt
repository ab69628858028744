-- The terms that each function of the builder makes have the bits that Formula says, under any assignment and any
-- valuation that meets its calls.
use mathlib.Core.Path.{◌≡◌, refl, sym, ap, ◌∙◌}
use mathlib.Core.Bool.{Bool, false}
use mathlib.Core.List.{List, [], ◌∷◌, map, append-nil}
use Prim.Native.Nat.{ℕ, zero, suc, ◌+◌, ◌-◌, ◌<◌}
use native.Mathlib.Omega.{arith}
use lib.ListN.{length, get_or, drop, drop_of_length-le, length-map}
use lib.Seq.{drop-cons}
use Rattle.logic.specs.Net.{Net, constant, slot}
use Rattle.logic.specs.declared.Trit.{Trit}
use Rattle.bitvec.specs.Bits.{Bits}
use Rattle.bitvec.specs.Ops.{extract}
use Rattle.engine.specs.Call.{BinaryOp, Compare}
use Rattle.engine.specs.Call as c
use Rattle.engine.specs.Meaning.{Value, bool, bits, Assignment}
use Rattle.cell.specs.Cell.{Control, Binary}
use Rattle.cell.specs.Cell as cells
use Rattle.smt.specs.Prog.{Prog, ◌>>=◌, Age, is_undef, is_one, BitVec, bv, TritVec, tv}
use Rattle.smt.specs.Builder.{bv_concat_on, bv_concat, bv_is_zero, bv_to_bool, bool_to_bv, tv_lit, tv_const, tv_concat_on}
use Rattle.smt.specs.Builder.{tv_concat, tv_extract, tv_is0, tv_is1, tv_eq, tv_refines, tv_not, tv_and, tv_or, tv_xor}
use Rattle.smt.specs.Builder.{tv_mux, collect, net_of, value_of, invert_net, bv_no_x, carry_x, tv_adc, tv_equals, tv_less}
use Rattle.smt.specs.Builder.{tv_strict, may_divide, tv_divide, tv_binary, tv_shift, Prepared}
use Rattle.smt.specs.Wp.{wp}
use Rattle.smt.proofs.WpLaws.{wp_seq}
use Rattle.smt.specs.Formula.{TritBits, tb, NetBits, net_bits, bit_of, read_bits, lit_bits, concat_bits, extract_bits}
use Rattle.smt.specs.Formula.{not_bits, and_bits, or_bits, xor_bits, mux_bits, invert_bits, same_bits, refines_bits}
use Rattle.smt.specs.Formula.{equals_bits, no_x, less_bits, strict_bits, divides, divide_bits, carry_or, carry_bits}
use Rattle.smt.specs.Formula.{adc_bits, shift_bits, binary_bits}
use Rattle.smt.proofs.FormulaLaws.{one}

module _ (ρ : Assignment) (v : ℕ → Value) where
  -- A pair of terms has these bits.
  abbrev pub Is : TritVec → TritBits → Type 0
  Is t b = (v t.x.term ≡ bits b.x) × (v t.y.term ≡ bits b.y)

  pub tv_lit-wp : (value : List Trit) → wp ρ v (tv_lit value) (λ r. Is r (lit_bits value))
  unfolding tv_lit ◌>>=◌ lit_bits
  tv_lit-wp value = λ x ex y ey. (ex, ey)

  pub tv_extract-wp : (i j : ℕ) (a : TritVec) (A : TritBits) → Is a A
      → wp ρ v (tv_extract i j a) (λ r. Is r (extract_bits i j A))
  unfolding tv_extract ◌>>=◌ extract_bits
  tv_extract-wp i j a A ha = λ x ex y ey. (cc, cc)

  pub tv_not-wp : (a : TritVec) (A : TritBits) → Is a A → wp ρ v (tv_not a) (λ r. Is r (not_bits A))
  unfolding tv_not ◌>>=◌ not_bits
  tv_not-wp a A ha = λ y ey. (cc, cc)

  pub tv_and-wp : (a b : TritVec) (w : ℕ) (A B : TritBits) → Is a A → Is b B
      → wp ρ v (tv_and a b w) (λ r. Is r (and_bits A B))
  unfolding tv_and tv_is0 ◌>>=◌ and_bits
  tv_and-wp a b w A B ha hb =
      λ ax ay eax eay bx yb ebx eby k1 e1 k2 e2 k3 e3 k4 e4 k5 e5 k6 e6 y ey k7 e7 k8 e8 k9 e9 x ex. (cc, cc)

  pub tv_or-wp : (a b : TritVec) (w : ℕ) (A B : TritBits) → Is a A → Is b B
      → wp ρ v (tv_or a b w) (λ r. Is r (or_bits A B))
  unfolding tv_or tv_is1 ◌>>=◌ or_bits
  tv_or-wp a b w A B ha hb =
      λ ax ay eax eay bx yb ebx eby k1 e1 k2 e2 k3 e3 k4 e4 y ey k5 e5 k6 e6 k7 e7 x ex. (cc, cc)

  pub tv_xor-wp : (a b : TritVec) (A B : TritBits) → Is a A → Is b B → wp ρ v (tv_xor a b) (λ r. Is r (xor_bits A B))
  unfolding tv_xor ◌>>=◌ xor_bits
  tv_xor-wp a b A B ha hb = λ y ey x ex. (cc, cc)

  pub tv_mux-wp : (s a b : TritVec) (w : ℕ) (S A B : TritBits) → Is s S → Is a A → Is b B
      → wp ρ v (tv_mux s a b w) (λ r. Is r (mux_bits S A B))
  unfolding tv_mux tv_is0 tv_is1 bv_to_bool ◌>>=◌ mux_bits
  tv_mux-wp s a b w S A B hs ha hb =
      λ sx sy esx esy ax ay eax eay bx yb ebx eby k1 e1 k2 e2 k3 e3 k4 e4 k5 e5 k6 e6 k7 e7 k8 e8 k9 e9
      k10 e10 k11 e11 k12 e12 k13 e13 k14 e14 k15 e15 k16 e16 k17 e17. (cc, cc)

  pub tv_eq-wp : (a b : TritVec) (A B : TritBits) → Is a A → Is b B → wp ρ v (tv_eq a b) (λ r. v r ≡ bool (same_bits A B))
  unfolding tv_eq ◌>>=◌ same_bits
  tv_eq-wp a b A B ha hb = λ x ex y ey r er. cc

  pub tv_refines-wp : (from to : TritVec) (A B : TritBits) → Is from A → Is to B
      → wp ρ v (tv_refines from to) (λ r. v r ≡ bool (refines_bits A B))
  unfolding tv_refines ◌>>=◌ refines_bits
  tv_refines-wp from to A B ha hb = λ k1 e1 k2 e2 k3 e3 k4 e4 k5 e5 k6 e6 r er. cc

  pub invert_net-wp : (w : Control) (a : TritVec) (A : TritBits) → Is a A
      → wp ρ v (invert_net w a) (λ r. Is r (invert_bits w.inverted A))
  unfolding invert_net ◌>>=◌ invert_bits
  invert_net-wp w a A ha = λ k e y ey. (cc, cc)

one_bit_lem : (s : Bits) → length s ≡ 1 → s ≡ get_or s 0 false ∷ []
one_bit_lem [] e = absurd (omega arith)
one_bit_lem (b ∷ []) e = refl
one_bit_lem (b ∷ d ∷ s) e = absurd (omega arith)

pub extract-one : (s : Bits) (i : ℕ) → i < length s → extract i i s ≡ get_or s i false ∷ []
extract-one s i h = rw (single i, drop-cons s i false h)
  where
    single : (i : ℕ) → suc i - i ≡ 1
    single i = omega arith

-- ---- nets

-- Reading nets one by one and joining them is reading the value.
concat-reads : (b : NetBits) (age : ℕ → Age) (nets : List Net)
    → concat_bits (map (λ n. read_bits b age (n ∷ [])) nets) ≡ read_bits b age nets
unfolding concat_bits read_bits
concat-reads b age [] = refl
concat-reads b age (n ∷ nets) =
    ap (λ (r : TritBits). tb (bit_of b age is_undef n ∷ r.x) (bit_of b age is_one n ∷ r.y)) (concat-reads b age nets)

module _ (ρ : Assignment) (v : ℕ → Value) where
  -- A reader of nets gives each net the bits of its age.
  abbrev pub Reads : (Net → Prog TritVec) → (ℕ → Age) → Type 0
  Reads f age = (n : Net) → wp ρ v (f n) (λ r. Is ρ v r (read_bits (net_bits ρ) age (n ∷ [])))

  pub net_of-wp : (a : Age) → Reads (net_of a) (λ i. a)
  unfolding net_of tv_lit tv_const read_bits ◌>>=◌
  net_of-wp a (constant t) = λ x ex y ey. (ex, ey)
  net_of-wp a (slot i) = λ x nx y ny. (nx.is ∙ ap bits (one_bit_lem _ nx.one), ny.is ∙ ap bits (one_bit_lem _ ny.one))

  -- Terms with the bits of a list, one by one.
  abbrev pub Each : List TritVec → List TritBits → Type 0
  Each [] [] = Unit {0}
  Each [] (b ∷ bs) = ⊥
  Each (t ∷ ts) [] = ⊥
  Each (t ∷ ts) (b ∷ bs) = Is ρ v t b × Each ts bs

  pub collect-wp : {A : Type 0} (f : A → Prog TritVec) (g : A → TritBits)
      → ((a : A) → wp ρ v (f a) (λ r. Is ρ v r (g a)))
      → (l : List A) → wp ρ v (collect f l) (λ ts. Each ts (map g l))
  unfolding collect
  collect-wp f g h [] = tt
  collect-wp f g h (a ∷ l) =
      wp_seq ρ v (f a) _ _ _ (h a) λ t ht.
      wp_seq ρ v (collect f l) _ _ _ (collect-wp f g h l) λ ts hts. (ht, hts)

  concat_on_wp : (t : TritVec) (ts : List TritVec) (b : TritBits) (bs : List TritBits) → Each (t ∷ ts) (b ∷ bs)
      → wp ρ v (tv_concat_on t ts) (λ r. Is ρ v r (concat_bits (b ∷ bs)))
  unfolding tv_concat_on concat_bits ◌>>=◌
  concat_on_wp t [] b [] h = (h.0.0 ∙ ap bits (sym (append-nil b.x)), h.0.1 ∙ ap bits (sym (append-nil b.y)))
  concat_on_wp t [] b (d ∷ ds) h = absurd h.1
  concat_on_wp t (u ∷ us) b [] h = absurd h.1
  concat_on_wp t (u ∷ us) b (d ∷ ds) h =
      wp_seq ρ v (tv_concat_on u us) _ _ _ (concat_on_wp u us d ds h.1) λ r hr x ex y ey. (cc, cc)

  pub tv_concat-wp : (ts : List TritVec) (bs : List TritBits) → 0 < length bs → Each ts bs
      → wp ρ v (tv_concat ts) (λ r. Is ρ v r (concat_bits bs))
  unfolding tv_concat
  tv_concat-wp [] [] p h = absurd (omega arith)
  tv_concat-wp [] (b ∷ bs) p h = absurd h
  tv_concat-wp (t ∷ ts) [] p h = absurd h
  tv_concat-wp (t ∷ ts) (b ∷ bs) p h = concat_on_wp t ts b bs h

  -- A value of at least one net.
  pub value_of-wp : (f : Net → Prog TritVec) (age : ℕ → Age) → Reads f age → (nets : List Net) → 0 < length nets
      → wp ρ v (value_of f nets) (λ r. Is ρ v r (read_bits (net_bits ρ) age nets))
  unfolding value_of
  value_of-wp f age reads nets p =
      let single : Net → TritBits = λ n. read_bits (net_bits ρ) age (n ∷ []) in
      wp_seq ρ v (collect f nets) _ _ _ (collect-wp f single reads nets) λ ts hts.
      rw (← (concat-reads (net_bits ρ) age nets)) (tv_concat-wp ts (map single nets) (rw (length-map nets single) p) hts)

-- ---- the arms of cell

module _ (ρ : Assignment) (v : ℕ → Value) where
  pub tv_equals-wp : (a b : TritVec) (n : ℕ) (A B : TritBits) → Is ρ v a A → Is ρ v b B
      → wp ρ v (tv_equals a b n) (λ r. Is ρ v r (equals_bits A B n))
  unfolding tv_equals bv_no_x bv_is_zero bool_to_bv ◌>>=◌ equals_bits
  tv_equals-wp a b n A B ha hb =
      λ k1 e1 k2 e2 k3 e3 k4 e4 k5 e5 k6 e6 k7 e7 k8 e8 k9 e9 k10 e10 k11 e11 k12 e12 k13 e13 k14 e14 k15 e15 k16 e16
      k17 e17
      x ex y ey. (cc, cc)

  pub tv_less-wp : (o : Compare) (a b : TritVec) (n : ℕ) (A B : TritBits) → Is ρ v a A → Is ρ v b B
      → wp ρ v (tv_less o a b n) (λ r. Is ρ v r (less_bits o A B n))
  unfolding tv_less bv_no_x bv_is_zero bool_to_bv ◌>>=◌ less_bits
  tv_less-wp o a b n A B ha hb =
      λ k1 e1 k2 e2 k3 e3 k4 e4 k5 e5 k6 e6 k7 e7 k8 e8 x ex k9 e9 k10 e10 k11 e11 y ey. (cc, cc)

  bv_no_x-wp : (a b : TritVec) (n : ℕ) (A B : TritBits) → Is ρ v a A → Is ρ v b B
      → wp ρ v (bv_no_x a b n) (λ k. v k ≡ bool (no_x A B n))
  unfolding bv_no_x bv_is_zero ◌>>=◌
  bv_no_x-wp a b n A B ha hb = λ k1 e1 k2 e2 k3 e3 k4 e4 k5 e5. cc

  pub tv_strict-wp : (o : BinaryOp) (k : ℕ) (a b : TritVec) (n : ℕ) (defined : Bool) (A B : TritBits)
      → v k ≡ bool defined → Is ρ v a A → Is ρ v b B
      → wp ρ v (tv_strict o k a b n) (λ r. Is ρ v r (strict_bits o defined A B n))
  unfolding tv_strict ◌>>=◌ strict_bits
  tv_strict-wp o k a b n defined A B hk ha hb = λ k1 e1 k2 e2 x ex y ey. (cc, cc)

  may_divide-wp : (a b : TritVec) (n : ℕ) (A B : TritBits) → Is ρ v a A → Is ρ v b B
      → wp ρ v (may_divide a b n) (λ k. v k ≡ bool (divides A B n))
  unfolding may_divide bv_is_zero ◌>>=◌
  may_divide-wp a b n A B ha hb =
      wp_seq ρ v (bv_no_x a b n) _ _ _ (bv_no_x-wp a b n A B ha hb) λ k hk k1 e1 k2 e2 k3 e3 k4 e4. cc

  pub tv_divide-wp : (o : BinaryOp) (a b : TritVec) (n : ℕ) (A B : TritBits) → Is ρ v a A → Is ρ v b B
      → wp ρ v (tv_divide o a b n) (λ r. Is ρ v r (divide_bits o A B n))
  tv_divide-wp o a b n A B ha hb =
      wp_seq ρ v (may_divide a b n) _ _ _ (may_divide-wp a b n A B ha hb) λ k hk. tv_strict-wp o k a b n _ A B hk ha hb

  pub tv_binary-wp : (o : Binary) (a b : TritVec) (n w : ℕ) (A B : TritBits) → Is ρ v a A → Is ρ v b B
      → wp ρ v (tv_binary o a b n w) (λ r. Is ρ v r (binary_bits o A B n))
  tv_binary-wp cells.and a b n w = tv_and-wp ρ v a b w
  tv_binary-wp cells.or a b n w = tv_or-wp ρ v a b w
  tv_binary-wp cells.xor a b n w = tv_xor-wp ρ v a b
  tv_binary-wp cells.eq a b n w = tv_equals-wp a b n
  tv_binary-wp cells.ult a b n w = tv_less-wp c.bvult a b n
  tv_binary-wp cells.slt a b n w = tv_less-wp c.bvslt a b n
  tv_binary-wp cells.mul a b n w =
      λ A B ha hb. wp_seq ρ v (bv_no_x a b n) _ _ _ (bv_no_x-wp a b n A B ha hb) λ k hk.
      tv_strict-wp c.bvmul k a b n _ A B hk ha hb
  tv_binary-wp cells.udiv a b n w = tv_divide-wp c.bvudiv a b n
  tv_binary-wp cells.umod a b n w = tv_divide-wp c.bvurem a b n
  tv_binary-wp cells.sdiv_trunc a b n w = tv_divide-wp c.bvsdiv a b n
  tv_binary-wp cells.smod_trunc a b n w = tv_divide-wp c.bvsrem a b n

  -- What prepare_shift made: a value and an amount at width w, and the places to shift by.
  pub record Prepares (p : Prepared) (w : ℕ) (value amount : TritBits) (by : Bits) : Type 0 where
    pub width : p.width ≡ w
    pub value-is : Is ρ v p.value value
    pub amount-is : Is ρ v p.amount amount
    pub by_is : v p.amount_mul.term ≡ bits by

  pub tv_shift-wp : (on_x on_y : BinaryOp) (n : ℕ) (p : Prepared) (w : ℕ) (A B : TritBits) (by : Bits)
      → Prepares p w A B by
      → wp ρ v (tv_shift on_x on_y n p) (λ r. Is ρ v r (shift_bits on_x on_y n w A B by))
  unfolding tv_shift tv_extract bv_is_zero ◌>>=◌ shift_bits extract_bits
  tv_shift-wp on_x on_y n p w A B by h = λ k1 e1 k2 e2 k3 e3 k4 e4 k5 e5 k6 e6 x ex y ey. (cc, cc)

  -- ---- Adc
  abbrev Bit : List BitVec → Bits → Type 0
  Bit [] [] = Unit {0}
  Bit [] (b ∷ bs) = ⊥
  Bit (k ∷ ks) [] = ⊥
  Bit (k ∷ ks) (b ∷ bs) = (v k.term ≡ bits (b ∷ [])) × Bit ks bs

  bv_concat_on-wp : (k : BitVec) (ks : List BitVec) (bs : Bits) → Bit (k ∷ ks) bs
      → wp ρ v (bv_concat_on k ks) (λ r. v r.term ≡ bits bs)
  unfolding bv_concat_on
  bv_concat_on-wp k ks [] h = absurd h
  bv_concat_on-wp k [] (b ∷ []) h = h.0
  bv_concat_on-wp k [] (b ∷ d ∷ bs) h = absurd h.1
  bv_concat_on-wp k (l ∷ ls) (b ∷ bs) h = wp_seq ρ v (bv_concat_on l ls) _ _ _ (bv_concat_on-wp l ls bs h.1) λ r hr x ex.
      cc

  bv_concat-wp : (ks : List BitVec) (bs : Bits) → 0 < length bs → Bit ks bs
      → wp ρ v (bv_concat ks) (λ r. v r.term ≡ bits bs)
  unfolding bv_concat
  bv_concat-wp [] [] p h = absurd (omega arith)
  bv_concat-wp [] (b ∷ bs) p h = absurd h
  bv_concat-wp (k ∷ ks) bs p h = bv_concat_on-wp k ks bs h

  carry_some : (x y : Bits) (d : Bool) → 0 < length (carry_bits x y d)
  unfolding carry_bits
  carry_some [] y d = omega arith
  carry_some (a ∷ x) [] d = omega arith
  carry_some (a ∷ x) (b ∷ y) d = omega arith

  carry_x-wp : (a b : TritVec) (ax bx : Bits) (m i : ℕ) (k : BitVec) (d : Bool)
      → v a.x.term ≡ bits ax → v b.x.term ≡ bits bx → length ax ≡ i + m → length bx ≡ i + m
      → v k.term ≡ bits (d ∷ [])
      → wp ρ v (carry_x a b m i k) (λ ks. Bit ks (carry_bits (drop i ax) (drop i bx) d))
  unfolding carry_x carry_bits ◌>>=◌
  carry_x-wp a b ax bx zero i k d ha hb la lb hk =
      rw (drop_of_length-le ax {i = i} (omega arith)) (hk, tt)
  carry_x-wp a b ax bx (suc m) i k d ha hb la lb hk =
      λ k1 e1 k2 e2 k3 e3 k4 e4 r er.
      let ia : i < length ax = omega arith in
      let ib : i < length bx = omega arith in
      let hr : v r ≡ bits (carry_or d (get_or ax i false) (get_or bx i false) ∷ []) =
      cc (extract-one ax i ia, extract-one bx i ib) in
      wp_seq ρ v (carry_x a b m (suc i) (bv r 1)) _ _ _
      (carry_x-wp a b ax bx m (suc i) (bv r 1) (carry_or d (get_or ax i false) (get_or bx i false)) ha hb (omega arith)
      (omega arith) hr)
      λ ks h. rw (drop-cons ax i false ia, drop-cons bx i false ib) (hr, h)

  pub tv_adc-wp : (a b c : TritVec) (n : ℕ) (A B : TritBits) (cx cy : Bool) → Is ρ v a A → Is ρ v b B
      → Is ρ v c (one cx cy)
      → length A.x ≡ n → length B.x ≡ n → wp ρ v (tv_adc a b c n) (λ r. Is ρ v r (adc_bits A B cx cy n))
  unfolding tv_adc ◌>>=◌ adc_bits
  tv_adc-wp a b c n A B cx cy ha hb hc la lb =
      λ ax ay eax eay bx yb ebx eby.
      let a' : TritVec = tv (bv ax n) (bv ay n) in
      let b' : TritVec = tv (bv bx n) (bv yb n) in
      wp_seq ρ v (carry_x a' b' n 0 c.x) _ _ _
      (carry_x-wp a' b' A.x B.x n 0 c.x cx (eax ∙ ha.0) (ebx ∙ hb.0) (omega arith) (omega arith) hc.0)
      λ ks hks.
      wp_seq ρ v (bv_concat ks) _ _ _
      (bv_concat-wp ks (carry_bits A.x B.x cx) (carry_some A.x B.x cx) hks) λ x hx.
      λ k1 e1 k2 e2 k3 e3 k4 e4 k5 e5 k6 e6 k7 e7 y ey. (hx, cc)
