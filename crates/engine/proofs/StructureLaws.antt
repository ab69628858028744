-- Laws of the structure of a call list: one record of a scan, and what the scans find in a list read so far.
use mathlib.Core.Path.{◌≡◌, refl, ap₂, subst}
use mathlib.Core.Bool.{Bool, true, false}
use mathlib.Core.List.{List}
use Prim.Native.Nat.{ℕ, zero, suc, ◌+◌, ◌-◌, ◌≤◌, ◌<◌}
use native.Mathlib.Omega.{arith}
use native.Mathlib.Numerals.{sub-one}
use lib.ListN.{length, get_or}
use lib.Dec.{ltb}
use borrow.Author.Tests.{lt-ltb, le-ltb, eq-eqb, ne_eqb, ltb-true}
use Rattle.logic.specs.declared.Term.{Term}
use Rattle.engine.specs.Sorts.{Sort}
use Rattle.engine.specs.Encode.{makes_term, operation_at, bare, next_at, call_at}
use Rattle.engine.specs.Structure.{origin_of, term_place, place_of_term, choose, guarded, origin_by, sort_from, capped}
use Rattle.engine.specs.Structure.{sort_through, sort_of_term, declares_at, declared_from}
use Rattle.engine.specs.declared.Origin.{Origin}
use Rattle.engine.specs.declared.Origin.TheVariants.{Given, Same, Joined}

-- ---- the place of a term

pub place_end : (n : ℕ) (w : List ℕ) (at k : ℕ) → length w ≤ at → term_place n w at k ≡ at
unfolding term_place
place_end zero w at k h = refl
place_end (suc n) w at k h = rw (le-ltb at (length w) h)

module _ (w : List ℕ) (at k : ℕ) (inside : at < length w) where
  pub place_here : (n : ℕ) → 0 < n → makes_term (operation_at w at) ≡ true → k ≡ 0 → term_place n w at k ≡ at
  unfolding term_place
  place_here zero h e q = absurd (omega arith)
  place_here (suc n) h e q = rw (lt-ltb at (length w) inside, e, eq-eqb k 0 q)

  pub place-next : (n : ℕ) → 0 < n → makes_term (operation_at w at) ≡ true → (k ≡ 0 → ⊥)
      → term_place n w at k ≡ term_place (n - 1) w (next_at bare w at) (k - 1)
  unfolding term_place
  place-next zero h e q = absurd (omega arith)
  place-next (suc n) h e q = rw (lt-ltb at (length w) inside, e, ne_eqb k 0 q, sub-one (suc n))

  pub place_skip : (n : ℕ) → 0 < n → makes_term (operation_at w at) ≡ false
      → term_place n w at k ≡ term_place (n - 1) w (next_at bare w at) k
  unfolding term_place
  place_skip zero h e = absurd (omega arith)
  place_skip (suc n) h e = rw (lt-ltb at (length w) inside, e, sub-one (suc n))

-- ---- names declared before

module _ (w : List ℕ) (end letter index suffix : ℕ) where
  pub declared-end : (n at : ℕ) → end ≤ at → declared_from n w at end letter index suffix ≡ false
  unfolding declared_from
  declared-end zero at h = refl
  declared-end (suc n) at h = rw (le-ltb at end h)

  pub declared-here : (n at : ℕ) → 0 < n → at < end → declares_at w at letter index suffix ≡ true
      → declared_from n w at end letter index suffix ≡ true
  unfolding declared_from
  declared-here zero at h l e = absurd (omega arith)
  declared-here (suc n) at h l e = rw (lt-ltb at end l, e)

  pub declared-next : (n at : ℕ) → 0 < n → at < end → declares_at w at letter index suffix ≡ false
      → declared_from n w at end letter index suffix ≡ declared_from (n - 1) w (next_at bare w at) end letter index suffix
  unfolding declared_from
  declared-next zero at h l e = absurd (omega arith)
  declared-next (suc n) at h l e = rw (lt-ltb at end l, e, sub-one (suc n))

-- ---- sorts through terms

-- The terms that a sort goes by are earlier than k.
abbrev pub Below : ℕ → Origin → Type 0
Below k (Given s) = Unit {0}
Below k (Same a) = a.0 < k
Below k (Joined a b) = (a.0 < k) × (b.0 < k)

pub sort_from_ext : (k : ℕ) (f g : ℕ → Sort) (d : Origin) → Below k d → ((a : ℕ) → a < k → f a ≡ g a)
    → sort_from f d ≡ sort_from g d
sort_from_ext k f g (Given s) h e = refl
sort_from_ext k f g (Same a) h e = e a.0 h
sort_from_ext k f g (Joined a b) h e = rw (e a.0 h.0, e b.0 h.1)

capped-low : (s : ℕ) → capped s ≤ 65
capped-low s = omega arith

pub from_low : (f : ℕ → ℕ) (d : Origin) → ((a : ℕ) → f a ≤ 65) → sort_from f d ≤ 65
from_low f (Given s) h = capped-low s
from_low f (Same a) h = h a.0
from_low f (Joined a b) h = capped-low (f a.0 + f b.0)

pub through_low : (n : ℕ) (table w : List ℕ) (k : ℕ) → sort_through n table w k ≤ 65
unfolding sort_through
through_low zero table w k = omega arith
through_low (suc n) table w k = from_low (sort_through n table w) (origin_by table w k) (λ a. through_low n table w a)

guarded-is : (k : ℕ) (d : Origin) → Below k (guarded k d)
guarded-is k (Given s) = tt
guarded-is k (Same a) = go (ltb a.0 k) refl
  where
    go : (b : Bool) → ltb a.0 k ≡ b → Below k (choose b (Same a) (Given 65))
    go true e = ltb-true a.0 k e
    go false e = tt
guarded-is k (Joined a b) = go (ltb a.0 k) refl (ltb b.0 k) refl
  where
    go : (p : Bool) → ltb a.0 k ≡ p → (q : Bool) → ltb b.0 k ≡ q
        → Below k (choose p (choose q (Joined a b) (Given 65)) (Given 65))
    go true e true f = (ltb-true a.0 k e, ltb-true b.0 k f)
    go true e false f = tt
    go false e q f = tt

-- What is known of term k's sort goes by earlier terms.
pub known_below : (table w : List ℕ) (k : ℕ) → Below k (origin_by table w k)
known_below table w k = go (ltb k (length table))
  where
    go : (b : Bool) → Below k (choose b (Given (get_or table k 0)) (guarded k (origin_of (call_at w (place_of_term w k)))))
    go true = tt
    go false = guarded-is k (origin_of (call_at w (place_of_term w k)))

-- Any number of terms above k is enough.
pub through_enough : (n m : ℕ) (table w : List ℕ) (k : ℕ) → k < n → k < m → sort_through n table w k
    ≡ sort_through m table w k
unfolding sort_through
through_enough zero m table w k h l = absurd (omega arith)
through_enough (suc n) zero table w k h l = absurd (omega arith)
through_enough (suc n) (suc m) table w k h l =
    sort_from_ext k (sort_through n table w) (sort_through m table w) (origin_by table w k) (known_below table w k)
    (λ a b. through_enough n m table w a (omega arith) (omega arith))

-- The sort of a term by each origin.
module _ (table w : List ℕ) (k : ℕ) where
  pub said_given : {s : ℕ} → origin_by table w k ≡ Given s → sort_of_term table w k ≡ capped s
  unfolding sort_through
  said_given e = rw e

  pub said_same : {a : Term} → origin_by table w k ≡ Same a
      → (a.0 < k) × (sort_of_term table w k ≡ sort_of_term table w a.0)
  unfolding sort_through
  said_same {a} e =
      let below : a.0 < k = subst (Below k) e (known_below table w k) in
      (below, rw e (through_enough k (suc a.0) table w a.0 below (omega arith)))

  pub said_joined : {a b : Term} → origin_by table w k ≡ Joined a b
      → (a.0 < k) × (b.0 < k)
      × (sort_of_term table w k ≡ capped (sort_of_term table w a.0 + sort_of_term table w b.0))
  unfolding sort_through
  said_joined {a} {b} e =
      let below : (a.0 < k) × (b.0 < k) = subst (Below k) e (known_below table w k) in (
        below.0,
        below.1,
        rw e
            (ap₂ (λ (s t : ℕ). capped (s + t)) (through_enough k (suc a.0) table w a.0 below.0 (omega arith))
            (through_enough k (suc b.0) table w b.0 below.1 (omega arith))),
      )
