-- Reading a call list record by record: what `calls_from` and `read_from` give at the end, at a record, and at a fault.
-- How many records they may still read makes no difference where it is at least the number of words left.
use mathlib.Core.Path.{◌≡◌, refl, sym, ap, ◌∙◌}
use mathlib.Core.Bool.{Bool, true, false, cond}
use mathlib.Core.List.{List, [], ◌∷◌}
use mathlib.Core.Option.{some, none}
use Prim.Native.Nat.{ℕ, zero, suc, ◌+◌, ◌-◌, ◌≤◌, ◌<◌}
use native.Mathlib.Omega.{arith}
use native.Mathlib.Decide.{ℕ_discrete}
use native.Mathlib.Numerals.{add-one, sub-one}
use lib.ListN.{length}
use lib.Dec.{ltb}
use borrow.Author.Tests.{lt-ltb, le-ltb}
use Rattle.engine.specs.Call.{Call}
use Rattle.engine.specs.Sorts.{Context, after}
use Rattle.engine.specs.Encode.{offset, bare, next_at, call_at, calls_from}
use Rattle.engine.specs.WellFormed.{head_stands, first_failing, wrong_argument, well_formed}
use Rattle.engine.specs.WellFormed.{malformed, read_from}

-- ---- the first failing number

module _ (test : ℕ → Bool) where
  pub none_failing : (i n : ℕ) → ((k : ℕ) → i ≤ k → k < i + n → test k ≡ true) → first_failing test i n ≡ none
  unfolding first_failing
  none_failing i zero h = refl
  none_failing i (suc n) h =
      rw (h i (omega arith) (omega arith)) (none_failing (suc i) n (λ k l u. h k (omega arith) (omega arith)))

  pub failing_none : (i n : ℕ) → n ≤ 0 → first_failing test i n ≡ none
  unfolding first_failing
  failing_none i zero h = refl
  failing_none i (suc n) h = absurd (omega arith)

  pub failing_turn : (i n : ℕ) → 0 < n → test i ≡ true → first_failing test i n ≡ first_failing test (i + 1) (n - 1)
  unfolding first_failing
  failing_turn i zero h e = absurd (omega arith)
  failing_turn i (suc n) h e = rw (e, add-one i, sub-one (suc n))

  pub failing_here : (i n : ℕ) → 0 < n → test i ≡ false → first_failing test i n ≡ some i
  unfolding first_failing
  failing_here i zero h e = absurd (omega arith)
  failing_here i (suc n) h e = rw e

-- Where none fails, each test holds.
pub failing_free : (test : ℕ → Bool) (i n : ℕ) → first_failing test i n ≡ none → (k : ℕ) → i ≤ k → k < i + n → test k
    ≡ true
unfolding first_failing
failing_free test i zero e k l u = absurd (omega arith)
failing_free test i (suc n) e k l u = go (λ q. failing_free test (suc i) n q k) (test i) refl (ℕ_discrete k i)
  where
    go : (first_failing test (suc i) n ≡ none → suc i ≤ k → k < suc i + n → test k ≡ true) → (b : Bool) → test i ≡ b
        → Dec (k ≡ i) → test k ≡ true
    go rest true t (yes q) = ap test q ∙ t
    go rest true t (no q) = rest (rw t at e) (omega arith) (omega arith)
    go rest false t d = let f : some i ≡ none = rw t at e in let z : ◌≡◌ {A = ℕ} 0 1 = cc in absurd (omega arith)

-- ---- decode

pub calls-end : (n : ℕ) (w : List ℕ) (at : ℕ) → length w ≤ at → calls_from n w at ≡ []
unfolding calls_from
calls-end zero w at h = refl
calls-end (suc n) w at h = rw (le-ltb at (length w) h)

pub calls-step : (n : ℕ) (w : List ℕ) (at : ℕ) → at < length w
    → calls_from (suc n) w at ≡ call_at w at ∷ calls_from n w (next_at bare w at)
unfolding calls_from
calls-step n w at h = rw (lt-ltb at (length w) h)

pub calls_enough : (n m : ℕ) (w : List ℕ) (at : ℕ) → length w - at ≤ n → length w - at ≤ m
    → calls_from n w at ≡ calls_from m w at
unfolding calls_from
calls_enough zero m w at h k = sym (calls-end m w at (omega arith))
calls_enough (suc n) zero w at h k = calls-end (suc n) w at (omega arith)
calls_enough (suc n) (suc m) w at h k =
    ap (λ (r : List Call). cond (ltb at (length w)) (call_at w at ∷ r) [])
    (calls_enough n m w (next_at bare w at) (omega arith) (omega arith))

-- ---- the outcome

pub read-end : (n : ℕ) (w : List ℕ) (at : ℕ) (x : Context) → length w ≤ at → read_from n w at x ≡ well_formed x
unfolding read_from
read-end zero w at x h = refl
read-end (suc n) w at x h = rw (le-ltb at (length w) h)

module _ (n : ℕ) (w : List ℕ) (at : ℕ) (x : Context) where
  pub read_step : at < length w → head_stands x w at ≡ true → wrong_argument x.sorts w at ≡ none
      → read_from (suc n) w at x ≡ read_from n w (next_at bare w at) (after x (call_at w at))
  unfolding read_from
  read_step h e q = rw (lt-ltb at (length w) h, e, q)

  pub read_head : at < length w → head_stands x w at ≡ false → read_from (suc n) w at x ≡ malformed at
  unfolding read_from
  read_head h e = rw (lt-ltb at (length w) h, e)

  pub read_wrong : (i : ℕ) → at < length w → head_stands x w at ≡ true → wrong_argument x.sorts w at ≡ some i
      → read_from (suc n) w at x ≡ malformed (at + offset bare + i)
  unfolding read_from
  read_wrong i h e q = rw (lt-ltb at (length w) h, e, q)
