-- The calls of a run are well formed: each argument is an earlier term of the sort that SMT-LIB asks, each width is
-- at most 64, and each net's slot is one of the design's. Stated over the sorts of all terms, with no state in it.
use mathlib.Core.Path.{◌≡◌, refl, ap}
use mathlib.Core.Bool.{true, false, not}
use mathlib.Core.List.{List, [], ◌∷◌}
use Prim.Native.Nat.{ℕ, zero, suc, ◌+◌, ◌-◌, ◌≤◌, ◌<◌}
use native.Mathlib.Nat.{le_trans}
use native.Mathlib.Omega.{arith}
use lib.ListN.{length, length-map, length-replicate}
use Rattle.logic.specs.Net.{Net, constant, slot}
use Rattle.logic.specs.Trit.{x_of, y_of}
use Rattle.logic.specs.declared.Trit.{Trit}
use Rattle.cell.specs.Cell.{Control, Binary, binary_width}
use Rattle.cell.specs.Cell as cells
use Rattle.cell.specs.Each.{Each}
use Rattle.engine.specs.Call.{Term, BinaryOp, Compare}
use Rattle.engine.specs.Call as c
use Rattle.engine.specs.Meaning.{All}
use Rattle.engine.specs.Sorts.{Sort, binary_sort, count_limit}
use Rattle.smt.specs.Prog.{Prog, ret, op, declare, bind, bind2, ◌>>=◌, Age, BitVec, bv, TritVec, tv, result_width}
use Rattle.smt.specs.Builder.{bv_concat_on, bv_concat, bv_is_zero, bv_to_bool, bool_to_bv, tv_lit, tv_const, tv_bind, tv_concat_on}
use Rattle.smt.specs.Builder.{tv_concat, tv_extract, tv_is0, tv_is1, tv_eq, tv_refines, tv_not, tv_and, tv_or, tv_xor, tv_mux}
use Rattle.smt.specs.Builder.{collect, net_of, value_of, invert_net, bv_no_x, carry_x, tv_adc, tv_equals, tv_less, tv_strict}
use Rattle.smt.specs.Builder.{may_divide, tv_divide}
use Rattle.smt.specs.Builder.{tv_binary, tv_shift, Prepared}

-- The sort of a term, and what its arguments must be, of the sorts of the terms; n terms are there.
abbrev pub sort_under : (ℕ → Sort) → Term → Sort
sort_under σ (c.bool_lit b) = 0
sort_under σ (c.bool_ite i a b) = 0
sort_under σ (c.not a) = 0
sort_under σ (c.and args) = 0
sort_under σ (c.lit s) = length s
sort_under σ (c.equal a b) = 0
sort_under σ (c.ite i a b) = σ a
sort_under σ (c.concat a b) = σ a + σ b
sort_under σ (c.extract i j a) = suc i - j
sort_under σ (c.bvnot a) = σ a
sort_under σ (c.op2 o a b) = binary_sort o (σ a)
sort_under σ (c.compare o a b) = 0

abbrev pub Truth : ℕ → (ℕ → Sort) → ℕ → Type 0
Truth n σ a = (a < n) × (σ a ≡ 0)

abbrev pub Vector : ℕ → (ℕ → Sort) → ℕ → Type 0
Vector n σ a = (a < n) × (1 ≤ σ a) × (σ a ≤ 64)

abbrev pub Alike : ℕ → (ℕ → Sort) → ℕ → ℕ → Type 0
Alike n σ a b = Vector n σ a × (b < n) × (σ b ≡ σ a)

abbrev pub Fine : ℕ → (ℕ → Sort) → Term → Type 0
Fine n σ (c.bool_lit b) = Unit {0}
Fine n σ (c.bool_ite i a b) = Truth n σ i × Truth n σ a × Truth n σ b
Fine n σ (c.not a) = Truth n σ a
Fine n σ (c.and args) = (0 < length args) × (length args < count_limit) × All (Truth n σ) args
Fine n σ (c.lit s) = (1 ≤ length s) × (length s ≤ 64)
Fine n σ (c.equal a b) = (a < n) × (b < n) × (σ a ≤ 64) × (σ b ≡ σ a)
Fine n σ (c.ite i a b) = Truth n σ i × Alike n σ a b
Fine n σ (c.concat a b) = (a < n) × (b < n) × (1 ≤ σ a) × (1 ≤ σ b) × (σ a + σ b ≤ 64)
Fine n σ (c.extract i j a) = (a < n) × (j ≤ i) × (i < σ a) × (σ a ≤ 64)
Fine n σ (c.bvnot a) = Vector n σ a
Fine n σ (c.op2 o a b) = Alike n σ a b
Fine n σ (c.compare o a b) = Alike n σ a b

-- A term made after the first n, of sort w: its number, and how many there are then; and two of them.
pub record Made (σ : ℕ → Sort) (n : ℕ) (w : Sort) : Type 0 where
  pub k : ℕ
  pub m : ℕ
  pub le : n ≤ m
  pub lt : k < m
  pub sort : σ k ≡ w

pub record Made2 (σ : ℕ → Sort) (n : ℕ) (w : Sort) : Type 0 where
  pub k : ℕ
  pub l : ℕ
  pub m : ℕ
  pub le : n ≤ m
  pub ltk : k < m
  pub ltl : l < m
  pub sortk : σ k ≡ w
  pub sortl : σ l ≡ w

-- A width of a bit vector.
abbrev pub Width : ℕ → Type 0
Width w = (1 ≤ w) × (w ≤ 64)

-- Over a design of so many slots.
module _ (slots : ℕ) (σ : ℕ → Sort) where
  abbrev pub safe : {A : Type 0} → ℕ → Prog A → (ℕ → A → Type 0) → Type 0
  safe n (ret a) Q = Q n a
  safe n (op t f) Q = Fine n σ t × ((e : Made σ n (sort_under σ t)) → safe e.m (f e.k) Q)
  safe n (declare a i h f) Q = (i < slots) × ((e : Made σ n 1) → safe e.m (f e.k) Q)
  safe n (bind w t f) Q = (t < n) × (σ t ≡ w) × Width w × ((e : Made σ n w) → safe e.m (f e.k) Q)
  safe n (bind2 w x y f) Q =
      (x < n) × (y < n) × (σ x ≡ w) × (σ y ≡ w) × Width w × ((e : Made2 σ n w) → safe e.m (f e.k e.l) Q)

  safe_bind : {A B : Type 0} (n : ℕ) (m : Prog A) (g : A → Prog B) (Q : ℕ → B → Type 0)
      → safe n m (λ i a. safe i (g a) Q) → safe n (m >>= g) Q
  unfolding ◌>>=◌
  safe_bind n (ret a) g Q h = h
  safe_bind n (op t f) g Q h = (h.0, λ e. safe_bind e.m (f e.k) g Q (h.1 e))
  safe_bind n (declare a i d f) g Q h = (h.0, λ e. safe_bind e.m (f e.k) g Q (h.1 e))
  safe_bind n (bind w t f) g Q h = (h.0, h.1, h.2, λ e. safe_bind e.m (f e.k) g Q (h.3 e))
  safe_bind n (bind2 w x y f) g Q h = (
    h.0,
    h.1,
    h.2,
    h.3,
    h.4,
    λ e.
        safe_bind e.m (f e.k e.l) g Q (h.5 e),
  )

  pub safe_mono : {A : Type 0} (n : ℕ) (m : Prog A) (P Q : ℕ → A → Type 0) → ((i : ℕ) (a : A) → n ≤ i → P i a → Q i a)
      → safe n m P → safe n m Q
  safe_mono n (ret a) P Q i h = i n a (omega arith) h
  safe_mono n (op t f) P Q i h = (
    h.0,
    λ e. safe_mono e.m (f e.k) P Q (λ j a l p. i j a (le_trans e.le l) p)
        (h.1 e),
  )
  safe_mono n (declare a d g f) P Q i h =
      (h.0, λ e. safe_mono e.m (f e.k) P Q (λ j a l p. i j a (le_trans e.le l) p) (h.1 e))
  safe_mono n (bind w t f) P Q i h =
      (h.0, h.1, h.2, λ e. safe_mono e.m (f e.k) P Q (λ j a l p. i j a (le_trans e.le l) p) (h.3 e))
  safe_mono n (bind2 w x y f) P Q i h = (
    h.0,
    h.1,
    h.2,
    h.3,
    h.4,
    λ e. safe_mono e.m (f e.k e.l) P Q
        (λ j a l p. i j a (le_trans e.le l) p) (h.5 e),
  )

  -- One part, then the rest by what holds of its result.
  pub safe_seq : {A B : Type 0} (n : ℕ) (m : Prog A) (g : A → Prog B) (P : ℕ → A → Type 0) (Q : ℕ → B → Type 0)
      → safe n m P → ((i : ℕ) (a : A) → n ≤ i → P i a → safe i (g a) Q) → safe n (m >>= g) Q
  safe_seq n m g P Q h i = safe_bind n m g Q (safe_mono n m P (λ j a. safe j (g a) Q) i h)

  -- A bit vector, and a trit vector, of width w, among the first n terms.
  abbrev pub VectorOf : Sort → ℕ → BitVec → Type 0
  VectorOf w n a = (a.term < n) × (σ a.term ≡ w) × (a.width ≡ w)

  abbrev pub TritsOf : Sort → ℕ → TritVec → Type 0
  TritsOf w n a = VectorOf w n a.x × VectorOf w n a.y

  pub later : (w n m : ℕ) (a : TritVec) → n ≤ m → TritsOf w n a → TritsOf w m a
  later w n m a h g = omega arith

  -- ---- trit vectors

  pub tv_bind_safe : (n w : ℕ) (a : TritVec) → Width w → TritsOf w n a → safe n (tv_bind a w) (TritsOf w)
  tv_bind_safe n w a h g = omega arith

  tv_is0_safe : (n w : ℕ) (a : TritVec) → Width w → TritsOf w n a → safe n (tv_is0 a) (VectorOf w)
  unfolding tv_is0 ◌>>=◌
  tv_is0_safe n w a h g = omega arith

  tv_is1_safe : (n w : ℕ) (a : TritVec) → Width w → TritsOf w n a → safe n (tv_is1 a) (VectorOf w)
  unfolding tv_is1 ◌>>=◌
  tv_is1_safe n w a h g = omega arith

  pub tv_lit_safe : (n : ℕ) (value : List Trit) → Width (length value) → safe n (tv_lit value) (TritsOf (length value))
  unfolding tv_lit ◌>>=◌
  tv_lit_safe n value h = rw (length-map value x_of, length-map value y_of) (omega arith)

  pub tv_not_safe : (n w : ℕ) (a : TritVec) → Width w → TritsOf w n a → safe n (tv_not a) (TritsOf w)
  unfolding tv_not ◌>>=◌
  tv_not_safe n w a h g = omega arith

  pub tv_xor_safe : (n w : ℕ) (a b : TritVec) → Width w → TritsOf w n a → TritsOf w n b → safe n (tv_xor a b) (TritsOf w)
  unfolding tv_xor ◌>>=◌
  tv_xor_safe n w a b h p q = omega arith

  -- The two terms of a bind.
  abbrev pair : {n w : ℕ} → Made2 σ n w → TritVec
  pair {w = w} e = tv (bv e.k w) (bv e.l w)

  pub tv_and_safe : (n w : ℕ) (a b : TritVec) → Width w → TritsOf w n a → TritsOf w n b
      → safe n (tv_and a b w) (TritsOf w)
  unfolding tv_and ◌>>=◌
  tv_and_safe n w a b h p q = (
    omega arith,
    omega arith,
    omega arith,
    omega arith,
    h,
    λ d. (
      omega arith,
      omega arith,
      omega arith,
      omega arith,
      h,
      λ e. safe_seq e.m (tv_is0 (pair d)) _ (VectorOf w) (TritsOf w) (tv_is0_safe e.m w (pair d) h (omega arith))
          λ i a0 li g0.
          safe_seq i (tv_is0 (pair e)) _ (VectorOf w) (TritsOf w) (tv_is0_safe i w (pair e) h (omega arith)) λ j b0 lj g1.
          omega arith,
    ),
  )

  pub tv_or_safe : (n w : ℕ) (a b : TritVec) → Width w → TritsOf w n a → TritsOf w n b → safe n (tv_or a b w) (TritsOf w)
  unfolding tv_or ◌>>=◌
  tv_or_safe n w a b h p q = (
    omega arith,
    omega arith,
    omega arith,
    omega arith,
    h,
    λ d. (
      omega arith,
      omega arith,
      omega arith,
      omega arith,
      h,
      λ e. safe_seq e.m (tv_is1 (pair d)) _ (VectorOf w) (TritsOf w) (tv_is1_safe e.m w (pair d) h (omega arith))
          λ i a1 li g0.
          safe_seq i (tv_is1 (pair e)) _ (VectorOf w) (TritsOf w) (tv_is1_safe i w (pair e) h (omega arith)) λ j b1 lj g1.
          omega arith,
    ),
  )

  bv_to_bool_safe : (n : ℕ) (a : BitVec) → VectorOf 1 n a → safe n (bv_to_bool a) (λ m k. Truth m σ k)
  unfolding bv_to_bool ◌>>=◌
  bv_to_bool_safe n a g = omega arith

  pub tv_mux_safe : (n w : ℕ) (s a b : TritVec) → Width w → TritsOf 1 n s → TritsOf w n a → TritsOf w n b
      → safe n (tv_mux s a b w) (TritsOf w)
  unfolding tv_mux ◌>>=◌
  tv_mux_safe n w s a b h r p q = (
    omega arith,
    omega arith,
    omega arith,
    omega arith,
    omega arith,
    λ c. (
      omega arith,
      omega arith,
      omega arith,
      omega arith,
      h,
      λ d. (
        omega arith,
        omega arith,
        omega arith,
        omega arith,
        h,
        λ e. safe_seq e.m (tv_is0 (pair c)) _ (VectorOf 1) (TritsOf w)
            (tv_is0_safe e.m 1 (pair c) (omega arith) (omega arith)) λ i s0 li g0.
            safe_seq i (tv_is1 (pair c)) _ (VectorOf 1) (TritsOf w)
            (tv_is1_safe i 1 (pair c) (omega arith) (omega arith)) λ j s1 lj g1.
            safe_seq j (bv_to_bool s0) _ (λ m k. Truth m σ k) (TritsOf w) (bv_to_bool_safe j s0 (omega arith)) λ k t0 lk g2.
            safe_seq k (bv_to_bool s1) _ (λ m k. Truth m σ k) (TritsOf w)
            (bv_to_bool_safe k s1 (omega arith)) λ l t1 ll g3. (
              omega arith,
              λ x1. (
                omega arith,
                λ x2. (
                  omega arith,
                  λ x3.
                      (omega arith, λ x4. (omega arith, λ x5. omega arith)),
                ),
              ),
            ),
      ),
    ),
  )

  pub tv_extract_safe : (n w i j : ℕ) (a : TritVec) → j ≤ i → i < w → w ≤ 64 → TritsOf w n a
      → safe n (tv_extract i j a) (TritsOf (suc i - j))
  unfolding tv_extract ◌>>=◌
  tv_extract_safe n w i j a h l u g = omega arith

  pub tv_eq_safe : (n w : ℕ) (a b : TritVec) → Width w → TritsOf w n a → TritsOf w n b
      → safe n (tv_eq a b) (λ m k. Truth m σ k)
  unfolding tv_eq ◌>>=◌
  tv_eq_safe n w a b h p q = omega arith

  pub tv_refines_safe : (n w : ℕ) (a b : TritVec) → Width w → TritsOf w n a → TritsOf w n b
      → safe n (tv_refines a b) (λ m k. Truth m σ k)
  unfolding tv_refines ◌>>=◌
  tv_refines_safe n w a b h p q = (omega arith, λ k1. (omega arith, λ k2. (omega arith, λ k3. omega arith)))

  pub invert_net_safe : (n : ℕ) (w : Control) (a : TritVec) → TritsOf 1 n a → safe n (invert_net w a) (TritsOf 1)
  unfolding invert_net ◌>>=◌
  invert_net_safe n w a g = omega arith

  -- ---- nets

  -- A net word's slot is one of the design's.
  abbrev pub Within : Net → Type 0
  Within (constant t) = Unit {0}
  Within (slot i) = i < slots

  pub net_of_safe : (n : ℕ) (a : Age) (m : Net) → Within m → safe n (net_of a m) (TritsOf 1)
  unfolding net_of tv_lit tv_const ◌>>=◌
  net_of_safe n a (constant t) h = omega arith
  net_of_safe n a (slot i) h = (h, λ e. (h, λ g. omega arith))

  module _ {A : Type 0} (f : A → Prog TritVec) (P : A → Type 0)
      (made : (n : ℕ) (a : A) → P a → safe n (f a) (TritsOf 1)) where
    pub collect_safe : (n : ℕ) (l : List A) → Each P l → safe n (collect f l)
        (λ m ts. Each (TritsOf 1 m) ts × (length ts ≡ length l))
    unfolding collect
    collect_safe n [] h = (tt, refl)
    collect_safe n (a ∷ l) h =
        safe_seq n (f a) _ (TritsOf 1) _ (made n a h.0) λ i t li g.
        safe_seq i (collect f l) _ (λ m ts. Each (TritsOf 1 m) ts × (length ts ≡ length l)) _
        (collect_safe i l h.1) λ j ts lj gs.
        ((later 1 i j t lj g, gs.0), ap suc gs.1)

  concat_on_safe : (n : ℕ) (t : TritVec) (ts : List TritVec) → TritsOf 1 n t → Each (TritsOf 1 n) ts
      → suc (length ts) ≤ 64
      → safe n (tv_concat_on t ts) (TritsOf (suc (length ts)))
  unfolding tv_concat_on ◌>>=◌
  concat_on_safe n t [] g gs h = g
  concat_on_safe n t (u ∷ us) g gs h =
      safe_seq n (tv_concat_on u us) _ (TritsOf (suc (length us))) (TritsOf (suc (suc (length us))))
      (concat_on_safe n u us gs.0 gs.1 (omega arith))
      λ i msb li e. omega arith

  pub tv_concat_safe : (n w : ℕ) (ts : List TritVec) → Width w → length ts ≡ w → Each (TritsOf 1 n) ts
      → safe n (tv_concat ts) (TritsOf w)
  unfolding tv_concat
  tv_concat_safe n w [] h e g = absurd (omega arith)
  tv_concat_safe n w (t ∷ ts) h e g = rw (← e) (concat_on_safe n t ts g.0 g.1 (omega arith))

  pub value_of_safe : (f : Net → Prog TritVec) → ((n : ℕ) (m : Net) → Within m → safe n (f m) (TritsOf 1))
      → (n : ℕ) (nets : List Net) → Width (length nets) → Each Within nets
      → safe n (value_of f nets) (TritsOf (length nets))
  unfolding value_of
  value_of_safe f made n nets h w =
      safe_seq n (collect f nets) _ _ (TritsOf (length nets)) (collect_safe f Within made n nets w) λ i ts li g.
      tv_concat_safe i (length nets) ts h g.1 g.0

  -- ---- the arms of cell

  bv_is_zero_safe : (n w : ℕ) (a : BitVec) → Width w → VectorOf w n a → safe n (bv_is_zero a w) (λ m k. Truth m σ k)
  unfolding bv_is_zero ◌>>=◌
  bv_is_zero_safe n w a h g = let z = length-replicate w false in omega arith

  bool_to_bv_safe : (n k : ℕ) → Truth n σ k → safe n (bool_to_bv k) (VectorOf 1)
  unfolding bool_to_bv ◌>>=◌
  bool_to_bv_safe n k g = omega arith

  bv_no_x_safe : (n w : ℕ) (a b : TritVec) → Width w → TritsOf w n a → TritsOf w n b
      → safe n (bv_no_x a b w) (λ m k. Truth m σ k)
  unfolding bv_no_x
  bv_no_x_safe n w a b h p q =
      safe_seq n (bv_is_zero a.x w) _ (λ m k. Truth m σ k) (λ m k. Truth m σ k)
      (bv_is_zero_safe n w a.x h (omega arith)) λ i k li g.
      safe_seq i (bv_is_zero b.x w) _ (λ m k. Truth m σ k) (λ m k. Truth m σ k)
      (bv_is_zero_safe i w b.x h (omega arith)) λ j l lj e.
      omega arith

  tv_less_safe : (n w : ℕ) (o : Compare) (a b : TritVec) → Width w → TritsOf w n a → TritsOf w n b
      → safe n (tv_less o a b w) (TritsOf 1)
  unfolding tv_less ◌>>=◌
  tv_less_safe n w o a b h p q =
      safe_seq n (bv_no_x a b w) _ (λ m k. Truth m σ k) (TritsOf 1) (bv_no_x_safe n w a b h p q) λ i k li g. (
        g,
        λ d. safe_seq d.m (bool_to_bv d.k) _ (VectorOf 1) (TritsOf 1) (bool_to_bv_safe d.m d.k (omega arith))
            λ j x lj gx. (
              omega arith,
              λ e. safe_seq e.m (bool_to_bv e.k) _ (VectorOf 1) (TritsOf 1)
                  (bool_to_bv_safe e.m e.k (omega arith)) λ l y ll gy.
                  omega arith,
            ),
      )

  -- An operation whose result is as wide as its operands.
  abbrev pub Keeps : BinaryOp → Type 0
  Keeps o = (w : ℕ) → (binary_sort o w ≡ w) × (result_width o w ≡ w)

  tv_strict_safe : (o : BinaryOp) (n w k : ℕ) (a b : TritVec) → Keeps o → Width w → Truth n σ k → TritsOf w n a
      → TritsOf w n b → safe n (tv_strict o k a b w) (TritsOf w)
  unfolding tv_strict ◌>>=◌
  tv_strict_safe o n w k a b keeps h g p q =
      let none = length-replicate w false in
      let all = length-replicate w true in
      let sy = (keeps (σ a.y.term)).0 in
      let wy = (keeps a.y.width).1 in
      omega arith

  tv_equals_safe : (n w : ℕ) (a b : TritVec) → Width w → TritsOf w n a → TritsOf w n b
      → safe n (tv_equals a b w) (TritsOf 1)
  unfolding tv_equals ◌>>=◌
  tv_equals_safe n w a b h p q = (
    omega arith,
    λ k1. (
      omega arith,
      λ k2. (
        omega arith,
        λ k3. (
          omega arith,
          λ k4.
              safe_seq k4.m (bv_is_zero (bv k4.k a.y.width) w) _ (λ m k. Truth m σ k) (TritsOf 1)
              (bv_is_zero_safe k4.m w (bv k4.k a.y.width) h (omega arith)) λ i z li gz. (
                gz,
                λ k5. (
                  tt,
                  λ k6.
                      safe_seq k6.m (bv_no_x a b w) _ (λ m k. Truth m σ k) (TritsOf 1)
                      (bv_no_x_safe k6.m w a b h (omega arith) (omega arith)) λ j x lj gx. (
                        gx,
                        λ k7. (
                          omega arith,
                          λ k8.
                              safe_seq k8.m (bool_to_bv k8.k) _ (VectorOf 1) (TritsOf 1)
                              (bool_to_bv_safe k8.m k8.k (omega arith)) λ l u ll gu.
                              omega arith,
                        ),
                      ),
                ),
              ),
        ),
      ),
    ),
  )

  may_divide_safe : (n w : ℕ) (a b : TritVec) → Width w → TritsOf w n a → TritsOf w n b
      → safe n (may_divide a b w) (λ m k. Truth m σ k)
  unfolding may_divide ◌>>=◌
  may_divide_safe n w a b h p q =
      safe_seq n (bv_no_x a b w) _ (λ m k. Truth m σ k) (λ m k. Truth m σ k) (bv_no_x_safe n w a b h p q) λ i k li g.
      safe_seq i (bv_is_zero b.y w) _ (λ m k. Truth m σ k) (λ m k. Truth m σ k)
      (bv_is_zero_safe i w b.y h (omega arith)) λ j z lj gz. (gz, λ e. omega arith)

  tv_divide_safe : (o : BinaryOp) (n w : ℕ) (a b : TritVec) → Keeps o → Width w → TritsOf w n a → TritsOf w n b
      → safe n (tv_divide o a b w) (TritsOf w)
  tv_divide_safe o n w a b keeps h p q =
      safe_seq n (may_divide a b w) _ (λ m k. Truth m σ k) (TritsOf w) (may_divide_safe n w a b h p q) λ i k li g.
      tv_strict_safe o i w k a b keeps h g (omega arith) (omega arith)

  pub tv_binary_safe : (o : Binary) (n w : ℕ) (a b : TritVec) → Width w → TritsOf w n a → TritsOf w n b
      → safe n (tv_binary o a b w (binary_width o w)) (TritsOf (binary_width o w))
  tv_binary_safe cells.and n w a b = tv_and_safe n w a b
  tv_binary_safe cells.or n w a b = tv_or_safe n w a b
  tv_binary_safe cells.xor n w a b = tv_xor_safe n w a b
  tv_binary_safe cells.eq n w a b = tv_equals_safe n w a b
  tv_binary_safe cells.ult n w a b = tv_less_safe n w c.bvult a b
  tv_binary_safe cells.slt n w a b = tv_less_safe n w c.bvslt a b
  tv_binary_safe cells.mul n w a b = λ h p q.
      safe_seq n (bv_no_x a b w) _ (λ m k. Truth m σ k) (TritsOf w) (bv_no_x_safe n w a b h p q) λ i k li g.
      tv_strict_safe c.bvmul i w k a b (λ _. (refl, refl)) h g (omega arith) (omega arith)
  tv_binary_safe cells.udiv n w a b = tv_divide_safe c.bvudiv n w a b λ _. (refl, refl)
  tv_binary_safe cells.umod n w a b = tv_divide_safe c.bvurem n w a b λ _. (refl, refl)
  tv_binary_safe cells.sdiv_trunc n w a b = tv_divide_safe c.bvsdiv n w a b λ _. (refl, refl)
  tv_binary_safe cells.smod_trunc n w a b = tv_divide_safe c.bvsrem n w a b λ _. (refl, refl)

  -- What prepare_shift made.
  pub record PreparedOf (w n : ℕ) (p : Prepared) : Type 0 where
    pub width : p.width ≡ w
    pub value : TritsOf w n p.value
    pub amount : TritsOf w n p.amount
    pub amount_mul : VectorOf w n p.amount_mul

  pub tv_shift_safe : (on_x on_y : BinaryOp) (n w v : ℕ) (p : Prepared) → Keeps on_x → Keeps on_y → Width w → 0 < v → v ≤ w
      → PreparedOf w n p → safe n (tv_shift on_x on_y v p) (TritsOf v)
  unfolding tv_shift ◌>>=◌
  tv_shift_safe on_x on_y n w v p kx ky h s l g =
      let wide = length-replicate p.width true in
      let sx = (kx (σ p.value.x.term)).0 in
      let sy = (ky (σ p.value.y.term)).0 in
      let wx = (kx p.value.x.width).1 in
      let wy = (ky p.value.y.width).1 in
      let same : suc (v - 1) - 0 ≡ v = omega arith in
      let pw = g.width in
      let pa = g.amount in
      safe_seq n (bv_is_zero p.amount.x p.width) _ (λ m k. Truth m σ k) (TritsOf v)
      (bv_is_zero_safe n p.width p.amount.x (omega arith) (omega arith)) λ i k li gk. (
        omega arith,
        λ e1. (
          omega arith,
          λ e2. (
            omega arith,
            λ e3. (
              omega arith,
              λ e4.
                  rw same at (tv_extract_safe e4.m w (v - 1) 0
                  (tv (bv e3.k (result_width on_x p.value.x.width))
                  (bv e4.k (result_width on_y p.value.y.width)))
                  (omega arith) (omega arith) (omega arith) (omega arith)),
            ),
          ),
        ),
      )

  -- ---- Adc

  carry_x_safe : (w n : ℕ) (a b : TritVec) (more i : ℕ) (carry : BitVec) → w ≤ 64 → TritsOf w n a → TritsOf w n b
      → i + more ≡ w
      → VectorOf 1 n carry → safe n (carry_x a b more i carry) (λ m ks. Each (VectorOf 1 m) ks × (length ks ≡ suc more))
  unfolding carry_x ◌>>=◌
  carry_x_safe w n a b zero i carry u ga gb e h = ((h, tt), refl)
  carry_x_safe w n a b (suc more) i carry u ga gb e h = (
    omega arith,
    λ e1. (
      omega arith,
      λ e2. (
        omega arith,
        λ e3. (
          omega arith,
          λ e4. (
            omega arith,
            omega arith,
            omega arith,
            λ k.
                safe_seq k.m (carry_x a b more (suc i) (bv k.k 1)) _
                (λ m ks. Each (VectorOf 1 m) ks × (length ks ≡ suc more)) _
                (carry_x_safe w k.m a b more (suc i) (bv k.k 1) u (omega arith) (omega arith) (omega arith)
                (omega arith))
                λ j ks lj g. ((omega arith, g.0), ap suc g.1),
          ),
        ),
      ),
    ),
  )

  bv_concat_on_safe : (n : ℕ) (k : BitVec) (ks : List BitVec) → VectorOf 1 n k → Each (VectorOf 1 n) ks
      → suc (length ks) ≤ 64
      → safe n (bv_concat_on k ks) (VectorOf (suc (length ks)))
  unfolding bv_concat_on
  bv_concat_on_safe n k [] g gs h = g
  bv_concat_on_safe n k (l ∷ ls) g gs h =
      safe_seq n (bv_concat_on l ls) _ (VectorOf (suc (length ls))) (VectorOf (suc (suc (length ls))))
      (bv_concat_on_safe n l ls gs.0 gs.1 (omega arith)) λ i msb li e. omega arith

  bv_concat_safe : (n w : ℕ) (ks : List BitVec) → Width w → length ks ≡ w → Each (VectorOf 1 n) ks
      → safe n (bv_concat ks) (VectorOf w)
  unfolding bv_concat
  bv_concat_safe n w [] h e g = absurd (omega arith)
  bv_concat_safe n w (k ∷ ks) h e g = rw (← e) (bv_concat_on_safe n k ks g.0 g.1 (omega arith))

  pub tv_adc_safe : (n w : ℕ) (a b carry : TritVec) → 0 < w → w ≤ 63 → TritsOf w n a → TritsOf w n b → TritsOf 1 n carry
      → safe n (tv_adc a b carry w) (TritsOf (suc w))
  unfolding tv_adc ◌>>=◌
  tv_adc_safe n w a b carry s l ga gb gc =
      let z = length-replicate w false in (
        omega arith,
        omega arith,
        omega arith,
        omega arith,
        omega arith,
        λ d. (
          omega arith,
          omega arith,
          omega arith,
          omega arith,
          omega arith,
          λ e. safe_seq e.m (carry_x (pair d) (pair e) w 0 carry.x) _
              (λ m ks. Each (VectorOf 1 m) ks × (length ks ≡ suc w)) (TritsOf (suc w))
              (carry_x_safe w e.m (pair d) (pair e) w 0 carry.x (omega arith) (omega arith) (omega arith)
              (omega arith) (omega arith)) λ i ks li gk.
              safe_seq i (bv_concat ks) _ (VectorOf (suc w)) (TritsOf (suc w))
              (bv_concat_safe i (suc w) ks (omega arith) gk.1 gk.0) λ j x lj gx.
              (omega arith, λ k1. (omega arith, λ k2. (omega arith, λ k3. (omega arith, λ k4. omega arith)))),
        ),
      )
