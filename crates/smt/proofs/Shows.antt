-- Two vectors of bits show a vector of trits. Each formula of the builder on vectors of one width shows its rule on
-- what its operands show, whatever their hidden bits: one induction over the lanes for each, and in a lane a table.
use mathlib.Core.Path.{◌≡◌, refl, ap, ◌∙◌}
use mathlib.Core.Bool.{Bool, true, false, not, cond, ◌&&◌, ◌||◌}
use mathlib.Core.List.{List, [], ◌∷◌, ◌++◌, map}
use Prim.Native.Nat.{ℕ, zero, suc, ◌+◌, ◌<◌}
use native.Mathlib.Nat.{zero-add, suc-add}
use native.Mathlib.Omega.{arith}
use lib.Dec.{T}
use lib.ListN.{length, get_or}
use Rattle.logic.specs.Table.{zip_with}
use Rattle.logic.specs.Trit.{shows}
use Rattle.logic.specs.declared.Trit.{Trit}
use Rattle.logic.specs.declared.Trit.TheVariants.{Zero, One, Undef}
use Rattle.bitvec.specs.Bits.{Bits}
use Rattle.bitvec.specs.Ops.{equal, bvand, bvor, bvxor, differ}
use Rattle.rules.specs.Trits as t
use Rattle.rules.specs.Rules as r
use Rattle.smt.proofs.Terms.{extract-one}
use Rattle.smt.specs.Formula.{TritBits, tb, lit_bits, concat_bits, extract_bits, not_bits, and_bits, or_bits, xor_bits}
use Rattle.smt.specs.Formula.{mux_bits, invert_bits}

-- An element that is there does not ask for the default.
pub get_d_any : {A : Type 0} (l : List A) (i : ℕ) (d e : A) → i < length l → get_or l i d ≡ get_or l i e
get_d_any [] i d e h = absurd (omega arith)
get_d_any (a ∷ l) zero d e h = refl
get_d_any (a ∷ l) (suc i) d e h = get_d_any l i d e (omega arith)

-- ---- a fact about all values of some bits, by computing

abbrev same_trit : Trit → Trit → Bool
same_trit Zero Zero = true
same_trit Zero One = false
same_trit Zero Undef = false
same_trit One Zero = false
same_trit One One = true
same_trit One Undef = false
same_trit Undef Zero = false
same_trit Undef One = false
same_trit Undef Undef = true

same-trit : (a b : Trit) → T (same_trit a b) → a ≡ b
same-trit Zero Zero h = refl
same-trit Zero One h = absurd h
same-trit Zero Undef h = absurd h
same-trit One Zero h = absurd h
same-trit One One h = refl
same-trit One Undef h = absurd h
same-trit Undef Zero h = absurd h
same-trit Undef One h = absurd h
same-trit Undef Undef h = refl

abbrev both : (Bool → Bool) → Bool
both p = p true && p false

both_at : (p : Bool → Bool) → T (both p) → (b : Bool) → T (p b)
both_at p h b = go (p true) (p false) h b refl refl
  where
    pick : (b u w : Bool) → T u → T w → u ≡ p true → w ≡ p false → T (p b)
    pick true u w tu tw eu ew = rw eu at tu
    pick false u w tu tw eu ew = rw ew at tw

    go : (u w : Bool) → T (u && w) → (b : Bool) → u ≡ p true → w ≡ p false → T (p b)
    go true true h b eu ew = pick b true true tt tt eu ew
    go true false h b eu ew = absurd h
    go false w h b eu ew = absurd h

pub by_table₂ : (f g : Bool → Bool → Trit) → T (both λ a. both λ b. same_trit (f a b) (g a b)) → (a b : Bool) → f a b
    ≡ g a b
by_table₂ f g h a b = same-trit (f a b) (g a b) (both_at (λ y. same_trit (f a y) (g a y))
    (both_at (λ x. both λ y. same_trit (f x y) (g x y)) h a) b)

pub by_table₄ : (f g : Bool → Bool → Bool → Bool → Trit)
    → T (both λ a. both λ b. both λ c. both λ d. same_trit (f a b c d) (g a b c d)) → (a b c d : Bool) → f a b c d
    ≡ g a b c d
by_table₄ f g h a b =
    by_table₂ (f a b) (g a b) (both_at (λ y. both λ z. both λ w. same_trit (f a y z w) (g a y z w))
    (both_at (λ x. both λ y. both λ z. both λ w. same_trit (f x y z w) (g x y z w)) h a) b)

-- ---- what bits show

-- n lanes: in each, two bits and the trit that they show.
pub data Shown : ℕ → Bits → Bits → List Trit → Type 0 where
  empty : Shown zero [] [] []
  lane : {n : ℕ} {x y : Bits} {ts : List Trit} (a b : Bool) → Shown n x y ts
      → Shown (suc n) (a ∷ x) (b ∷ y) (shows a b ∷ ts)

abbrev pub BitsShow : ℕ → TritBits → List Trit → Type 0
BitsShow n a ts = Shown n a.x a.y ts

pub shown-is : {n : ℕ} {x y : Bits} {ts : List Trit} → Shown n x y ts → zip_with shows x y ≡ ts
shown-is empty = refl
shown-is (lane {ts = ts} a b p) = ap (λ (l : List Trit). shows a b ∷ l) (shown-is p)

pub shown-x : {n : ℕ} {x y : Bits} {ts : List Trit} → Shown n x y ts → length x ≡ n
shown-x empty = refl
shown-x (lane a b p) = ap suc (shown-x p)

pub shown-y : {n : ℕ} {x y : Bits} {ts : List Trit} → Shown n x y ts → length y ≡ n
shown-y empty = refl
shown-y (lane a b p) = ap suc (shown-y p)

pub shown_ts : {n : ℕ} {x y : Bits} {ts : List Trit} → Shown n x y ts → length ts ≡ n
shown_ts empty = refl
shown_ts (lane a b p) = ap suc (shown_ts p)

-- One lane more, by the trit that it shows.
pub one_more_lem : {n : ℕ} {x y : Bits} {ts : List Trit} (a b : Bool) (u : Trit) → shows a b ≡ u → Shown n x y ts
    → Shown (suc n) (a ∷ x) (b ∷ y) (u ∷ ts)
one_more_lem a b u e p = rw e at (lane a b p)

-- ---- lane by lane

not-lane : (a b : Bool) → shows a (not b) ≡ t.not (shows a b)
not-lane = by_table₂ _ _ tt

and-lane : (a b c d : Bool)
    → shows ((a || c) && not ((not b && not a) || (not d && not c))) (b && d) ≡ t.and (shows a b) (shows c d)
and-lane = by_table₄ _ _ tt

or-lane : (a b c d : Bool) → shows ((a || c) && not ((b && not a) || (d && not c))) (b || d)
    ≡ t.or (shows a b) (shows c d)
or-lane = by_table₄ _ _ tt

xor-lane : (a b c d : Bool) → shows (a || c) (differ b d) ≡ t.xor (shows a b) (shows c d)
xor-lane = by_table₄ _ _ tt

agree-lane : (a b c d : Bool) → shows ((differ b d || a) || c) (b && d) ≡ t.agree (shows a b) (shows c d)
agree-lane = by_table₄ _ _ tt

pub not-shows : {n : ℕ} {x y : Bits} {ts : List Trit} → Shown n x y ts → BitsShow n (not_bits (tb x y)) (map t.not ts)
unfolding not_bits
not-shows empty = empty
not-shows (lane a b p) = one_more_lem a (not b) _ (not-lane a b) (not-shows p)

pub and-shows : {n : ℕ} {x y u v : Bits} {ts us : List Trit} → Shown n x y ts → Shown n u v us
    → BitsShow n (and_bits (tb x y) (tb u v)) (zip_with t.and ts us)
unfolding and_bits
and-shows empty empty = empty
and-shows (lane a b p) (lane c d q) = one_more_lem _ _ _ (and-lane a b c d) (and-shows p q)

pub or-shows : {n : ℕ} {x y u v : Bits} {ts us : List Trit} → Shown n x y ts → Shown n u v us
    → BitsShow n (or_bits (tb x y) (tb u v)) (zip_with t.or ts us)
unfolding or_bits
or-shows empty empty = empty
or-shows (lane a b p) (lane c d q) = one_more_lem _ _ _ (or-lane a b c d) (or-shows p q)

pub xor-shows : {n : ℕ} {x y u v : Bits} {ts us : List Trit} → Shown n x y ts → Shown n u v us
    → BitsShow n (xor_bits (tb x y) (tb u v)) (zip_with t.xor ts us)
unfolding xor_bits
xor-shows empty empty = empty
xor-shows (lane a b p) (lane c d q) = one_more_lem _ _ _ (xor-lane a b c d) (xor-shows p q)

-- A lane of 1 takes the first side, one of 0 the second, an X what they agree on.
agree-shows : {n : ℕ} {x y u v : Bits} {ts us : List Trit} → Shown n x y ts → Shown n u v us
    → Shown n (bvor (bvor (bvxor y v) x) u) (bvand y v) (zip_with t.agree ts us)
agree-shows empty empty = empty
agree-shows (lane a b p) (lane c d q) = one_more_lem _ _ _ (agree-lane a b c d) (agree-shows p q)

-- The first and the second side as they are.
zip_first : {n : ℕ} {x y u v : Bits} {ts us : List Trit} → Shown n x y ts → Shown n u v us
    → Shown n x y (zip_with (λ a b. a) ts us)
zip_first empty empty = empty
zip_first (lane a b p) (lane c d q) = lane a b (zip_first p q)

zip_second : {n : ℕ} {x y u v : Bits} {ts us : List Trit} → Shown n x y ts → Shown n u v us
    → Shown n u v (zip_with (λ a b. b) ts us)
zip_second empty empty = empty
zip_second (lane a b p) (lane c d q) = lane c d (zip_second p q)

mux_by : {n : ℕ} (sx sy : Bool) {x y u v : Bits} {ts us : List Trit} → Shown n x y ts → Shown n u v us
    → BitsShow n (mux_bits (tb (sx ∷ []) (sy ∷ [])) (tb x y) (tb u v)) (r.mux (shows sx sy) ts us)
unfolding mux_bits equal
mux_by true true p q = agree-shows p q
mux_by true false p q = agree-shows p q
mux_by false true p q = zip_first p q
mux_by false false p q = zip_second p q

pub mux-shows : {n : ℕ} {sx sy x y u v : Bits} {s : Trit} {ts us : List Trit} → Shown 1 sx sy (s ∷ []) → Shown n x y ts
    → Shown n u v us → BitsShow n (mux_bits (tb sx sy) (tb x y) (tb u v)) (r.mux s ts us)
mux-shows (lane a b empty) p q = mux_by a b p q

-- ---- constants and controls

pub lit-shows : (value : List Trit) → BitsShow (length value) (lit_bits value) value
unfolding lit_bits
lit-shows [] = empty
lit-shows (Zero ∷ value) = lane false false (lit-shows value)
lit-shows (One ∷ value) = lane false true (lit-shows value)
lit-shows (Undef ∷ value) = lane true false (lit-shows value)

pub invert_shows : (inverted : Bool) {x y : Bits} {u : Trit} → Shown 1 x y (u ∷ [])
    → BitsShow 1 (invert_bits inverted (tb x y)) (cond inverted (t.not u) u ∷ [])
unfolding invert_bits equal
invert_shows true (lane true true empty) = lane true false empty
invert_shows true (lane true false empty) = lane true true empty
invert_shows true (lane false true empty) = lane false false empty
invert_shows true (lane false false empty) = lane false true empty
invert_shows false (lane true true empty) = lane true true empty
invert_shows false (lane true false empty) = lane true false empty
invert_shows false (lane false true empty) = lane false true empty
invert_shows false (lane false false empty) = lane false false empty

-- ---- one after the other

pub append_shows : {n m : ℕ} {x y u v : Bits} {ts us : List Trit} → Shown n x y ts → Shown m u v us
    → Shown (n + m) (x ++ u) (y ++ v) (ts ++ us)
append_shows {m = m} empty q = rw (zero-add m) q
append_shows {m = m} (lane {n = n} a b p) q = rw (suc-add n m) (lane a b (append_shows p q))

-- Single trits joined.
pub data Singles : List TritBits → List Trit → Type 0 where
  none : Singles [] []
  more : {a : TritBits} {rest : List TritBits} {u : Trit} {us : List Trit} → BitsShow 1 a (u ∷ []) → Singles rest us
      → Singles (a ∷ rest) (u ∷ us)

pub concat-shows : {l : List TritBits} {us : List Trit} → Singles l us → BitsShow (length l) (concat_bits l) us
unfolding concat_bits
concat-shows none = empty
concat-shows (more p ps) = joined p (concat-shows ps)
  where
    joined : {n : ℕ} {x y u v : Bits} {s : Trit} {ts : List Trit} → Shown 1 x y (s ∷ []) → Shown n u v ts
        → Shown (suc n) (x ++ u) (y ++ v) (s ∷ ts)
    joined (lane a b empty) q = lane a b q

-- Any one of them.
pub shown-at : {n : ℕ} {x y : Bits} {ts : List Trit} → Shown n x y ts → (i : ℕ) (a b : Bool)
    → shows (get_or x i a) (get_or y i b) ≡ get_or ts i (shows a b)
shown-at empty i a b = refl
shown-at (lane c d p) zero a b = refl
shown-at (lane c d p) (suc i) a b = shown-at p i a b

pub extract-shows : {n : ℕ} {x y : Bits} {ts : List Trit} → Shown n x y ts → (i : ℕ) (d : Trit) → i < n
    → BitsShow 1 (extract_bits i i (tb x y)) (get_or ts i d ∷ [])
unfolding extract_bits
extract-shows {x = x} {y = y} {ts = ts} p i d h =
    let lx = shown-x p in
    let ly = shown-y p in
    rw (extract-one x i (omega arith), extract-one y i (omega arith))
    (one_more_lem _ _ _ (shown-at p i false false ∙ get_d_any ts i Zero d (let lt = shown_ts p in omega arith)) empty)
