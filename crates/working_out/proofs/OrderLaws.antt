-- Laws of the definitions of Order.
use mathlib.Core.Path.{◌≡◌, refl, sym, ◌∙◌}
use mathlib.Core.Logic.{◌≢◌}
use mathlib.Core.Bool.{Bool, true, false, not, cond, false≢true, true≢false}
use mathlib.Core.Option.{Option, none, some}
use Prim.Native.Nat.{ℕ, zero, suc, ◌-◌, ◌≤◌, ◌<◌}
use native.Mathlib.Omega.{arith}
use native.Mathlib.Decide.{ℕ_discrete}
use lib.Dec.{T, eqb, ltb, eqb→eq, eqb_refl, ltb→lt, nltb→le}
use Rattle.working_out.specs.Order.{option, is_some, lowest}

pub none_of : (o : Option ℕ) → is_some o ≡ false → o ≡ none
none_of none e = refl
none_of (some k) e = absurd (true≢false e)

pub none≢some : {k : ℕ} → none ≡ some k → ⊥
none≢some {k} e = let z : ◌≡◌ {A = ℕ} 0 1 = cc in omega arith

pub some_inj : {j k : ℕ} → some j ≡ some k → j ≡ k
some_inj {j} {k} e = cc

pub true_of : (b : Bool) → T b → b ≡ true
true_of true t = refl
true_of false t = absurd t

pub not-true : (b : Bool) → not b ≡ true → b ≡ false
not-true true e = absurd (false≢true e)
not-true false e = refl

pub not-false : (b : Bool) → not b ≡ false → b ≡ true
not-false true e = refl
not-false false e = absurd (true≢false e)

pub eqb_same : (n : ℕ) → eqb n n ≡ true
eqb_same n = true_of (eqb n n) (eqb_refl n)

pub record IsLowest (n : ℕ) (p : ℕ → Bool) (i : ℕ) : Type 0 where
  pub below : i < n
  pub holds : p i ≡ true

pub lowest-some : (n : ℕ) (p : ℕ → Bool) (i : ℕ) → lowest n p ≡ some i → IsLowest n p i
unfolding lowest
lowest-some zero p i e = absurd (none≢some e)
lowest-some (suc n) p i e = go (λ d. lowest-some n p i d) (lowest n p) refl (p n) refl e
  where
    go : (lowest n p ≡ some i → IsLowest n p i) → (o : Option ℕ) → lowest n p ≡ o → (b : Bool) → p n ≡ b
        → option o (cond b (some n) none) some ≡ some i → IsLowest (suc n) p i
    go rec none d true q f = let j : n ≡ i = cc in record { below = omega arith; holds = rw (← j) q }
    go rec none d false q f = absurd (none≢some f)
    go rec (some k) d b q f = let h = rec (d ∙ f) in record { below = omega arith; holds = h.holds }

pub lowest-none : (n : ℕ) (p : ℕ → Bool) → lowest n p ≡ none → (i : ℕ) → i < n → p i ≡ false
unfolding lowest
lowest-none zero p e i h = absurd (omega arith)
lowest-none (suc n) p e i h = go (λ d. lowest-none n p d) (lowest n p) refl (p n) refl e
  where
    last : Dec (i ≡ n) → p n ≡ false → ((i : ℕ) → i < n → p i ≡ false) → p i ≡ false
    last (yes q) f g = rw q f
    last (no q) f g = g i (omega arith)

    go : (lowest n p ≡ none → (i : ℕ) → i < n → p i ≡ false) → (o : Option ℕ) → lowest n p ≡ o → (b : Bool) → p n ≡ b
        → option o (cond b (some n) none) some ≡ none → p i ≡ false
    go rec none d true q f = absurd (none≢some (sym f))
    go rec none d false q f = last (ℕ_discrete i n) q (rec d)
    go rec (some k) d b q f = absurd (none≢some (sym f))

pub eqb-false : (m n : ℕ) → eqb m n ≡ false → m ≢ n
eqb-false m n e q = let h : T (eqb m n) = rw q (eqb_refl n) in rw e at h

-- The places i < j ≤ n of a walk that are the same number.
pub record Twice (n : ℕ) (walk : ℕ → ℕ) : Type 0 where
  pub i : ℕ
  pub j : ℕ
  pub before : i < j
  pub within : j ≤ n
  pub same : walk i ≡ walk j

-- The numbers other than c, closed up.
squash : ℕ → ℕ → ℕ
squash c x = cond (ltb x c) x (x - 1)

squash_lt : (c x n : ℕ) → x ≢ c → x < suc n → c < suc n → squash c x < n
unfolding squash
squash_lt c x n ne hx hc = go (ltb x c) refl
  where
    go : (b : Bool) → ltb x c ≡ b → cond b x (x - 1) < n
    go true e = let h = ltb→lt x c (rw e tt) in omega arith
    go false e = let h = nltb→le x c (rw e tt) in omega arith

squash_inj : (c x y : ℕ) → x ≢ c → y ≢ c → squash c x ≡ squash c y → x ≡ y
unfolding squash
squash_inj c x y nx ny e = go (ltb x c) refl (ltb y c) refl e
  where
    go : (a : Bool) → ltb x c ≡ a → (b : Bool) → ltb y c ≡ b → cond a x (x - 1) ≡ cond b y (y - 1) → x ≡ y
    go true p true q e = e
    go true p false q e = let h = ltb→lt x c (rw p tt) in let k = nltb→le y c (rw q tt) in omega arith
    go false p true q e = let h = nltb→le x c (rw p tt) in let k = ltb→lt y c (rw q tt) in omega arith
    go false p false q e = let h = nltb→le x c (rw p tt) in let k = nltb→le y c (rw q tt) in omega arith

-- By induction on n: a place that meets the first again, or the rest of the walk among the other numbers.
abbrev pub Pigeonhole : ℕ → Type 0
Pigeonhole n = (walk : ℕ → ℕ) → ((i : ℕ) → i ≤ n → walk i < n) → Twice n walk

pub pigeon : (n : ℕ) → Pigeonhole n
pigeon zero walk h = absurd (let z = h 0 (omega arith) in omega arith)
pigeon (suc n) walk h = go (λ w. pigeon n w) (lowest (suc n) again) refl
  where
    again : ℕ → Bool
    again j = eqb (walk (suc j)) (walk 0)

    first : walk 0 < suc n
    first = h 0 (omega arith)

    low : (j : ℕ) → j < suc n → walk (suc j) ≢ walk 0 → squash (walk 0) (walk (suc j)) < n
    low j l ne = squash_lt (walk 0) (walk (suc j)) n ne (h (suc j) (omega arith)) first

    rest : Pigeonhole n → ((j : ℕ) → j < suc n → walk (suc j) ≢ walk 0) → Twice (suc n) walk
    rest rec ne =
        let t = rec (λ j. squash (walk 0) (walk (suc j))) (λ j l. low j (omega arith) (ne j (omega arith))) in
        let b = t.before in
        let c = t.within in
        let ni = ne t.i (omega arith) in
        let nj = ne t.j (omega arith) in
        let same = squash_inj (walk 0) (walk (suc t.i)) (walk (suc t.j)) ni nj t.same in
        record { i = suc t.i; j = suc t.j; before = omega arith; within = omega arith; same = same }

    go : Pigeonhole n → (o : Option ℕ) → lowest (suc n) again ≡ o → Twice (suc n) walk
    go rec none e = rest rec (λ j l. eqb-false (walk (suc j)) (walk 0) (lowest-none (suc n) again e j l))
    go rec (some j) e =
        let f = lowest-some (suc n) again j e in
        let same = eqb→eq (walk (suc j)) (walk 0) (rw f.holds tt) in
        record { i = 0; j = suc j; before = omega arith; within = omega arith; same = sym same }
