-- Laws of the definitions of Records.
use mathlib.Core.Path.{◌≡◌, refl, sym, ap, ◌∙◌}
use mathlib.Core.Bool.{Bool, true, false, cond}
use mathlib.Core.List.{List, [], ◌∷◌, ◌++◌}
use Prim.Native.Nat.{ℕ, zero, suc, ◌+◌, ◌-◌, ◌<◌, ◌≤◌, ◌^◌}
use native.Mathlib.Nat.{le_refl, le_trans, zero-add, suc-add, le_of_suc-le-suc}
use native.Mathlib.Numerals.{add-one, sub-one}
use native.Mathlib.Omega.{arith}
use lib.Dec.{eqb, leb, ltb, eqb-suc-zero}
use lib.ListN.{length, get_or, length-append, get_or-eq_default}
use borrow.Author.Tests.{lt-ltb, ltb-false, leb-true, leb-false}
use Rattle.bitvec.specs.Bits.{bit}
use Rattle.engine.specs.Call.{Call}
use Rattle.engine.specs.Call as c
use Rattle.engine.specs.Encode.{makes_term, operation_at, count_at, bare, next_at, call_at, calls_from}
use Rattle.engine.proofs.Steps.{calls-end}
use Rattle.engine.specs.Structure.{term_place}
use Rattle.engine.specs.Emit.{counted, last}
use Rattle.call_list.specs.Made.{made, makes}
use Rattle.call_list.proofs.MadeLaws.{makes_operation, made_append, made_more, made-less}
use Rattle.call_list.specs.Records.{first_calls}

-- A count that stops at the largest number stands for a place past every list.
pub word_counted : (w : List ℕ) (n : ℕ) → length w < 2 ^ 64 → get_or w (counted n) 0 ≡ get_or w n 0
word_counted w n short = go (leb n last) refl
  where
    go : (b : Bool) → leb n last ≡ b → get_or w (counted n) 0 ≡ get_or w n 0
    go true e = ap (λ (k : ℕ). get_or w k 0) (let z = leb-true n last e in omega arith)
    go false e =
        let z = leb-false n last e in
        get_or-eq_default w 0 (omega arith) ∙ sym (get_or-eq_default w 0 (omega arith))

-- The place after some records.
unfoldable pub place_after : ℕ → List ℕ → ℕ → ℕ
place_after zero w at = at
place_after (suc n) w at = place_after n w (next_at bare w at)

grows : (n : ℕ) (w : List ℕ) (at : ℕ) → at ≤ place_after n w at
unfolding place_after
grows zero w at = le_refl at
grows (suc n) w at = le_trans (omega arith) (grows n w (next_at bare w at))

place-next : (n : ℕ) (w : List ℕ) (at : ℕ) → place_after (suc n) w at ≡ next_at bare w (place_after n w at)
unfolding place_after
place-next zero w at = refl
place-next (suc n) w at = place-next n w (next_at bare w at)

-- Some records, and then some more.
pub split : (n m : ℕ) (w : List ℕ) (at : ℕ) → calls_from (n + m) w at ≡ calls_from n w
    at ++ calls_from m w (place_after n w at)
unfolding place_after calls_from
split zero m w at = rw zero-add
split (suc n) m w at = rw suc-add (go (ltb at (length w)) refl (split n m w (next_at bare w at)))
  where
    go : (b : Bool) → ltb at (length w) ≡ b
        → calls_from (n + m) w (next_at bare w at)
        ≡ calls_from n w (next_at bare w at) ++ calls_from m w (place_after n w (next_at bare w at))
        → calls_from (suc (n + m)) w at ≡ calls_from (suc n) w at ++ calls_from m w (place_after n w (next_at bare w at))
    go true e rest = rw (e, rest)
    go false e rest =
        let past : length w ≤ at = ltb-false _ _ e in
        rw (
          e,
          calls-end m w (place_after n w (next_at bare w at))
              (le_trans past (le_trans (omega arith) (grows n w (next_at bare w at)))),
        )

made_one : (call : Call) → bit (makes call) ≡ length (made (call ∷ []))
unfolding made
made_one (c.term t) = refl
made_one (c.declare name w) = refl
made_one (c.assert k) = refl
made_one c.check = refl

pub made_at : (w : List ℕ) (at : ℕ) → makes (call_at w at) ≡ makes_term (operation_at w at)
made_at w at = makes_operation (operation_at w at) (count_at w at) _

pub place-start : (w : List ℕ) → 0 ≡ place_after 0 w 0
unfolding place_after
place-start w = refl

-- Reading has come to a place, past some records.
module _ (w : List ℕ) (records at : ℕ) (here : at ≡ place_after records w 0) where
  pub place-more : next_at bare w at ≡ place_after (records + 1) w 0
  place-more = rw (add-one records, place-next records w 0, here)

  -- The record at the place comes next.
  pub first_more : at < length w → first_calls w (suc records) ≡ first_calls w records ++ (call_at w at ∷ [])
  unfolding calls_from
  first_more inside =
      ap (λ (n : ℕ). calls_from n w 0) (sym (add-one records)) ∙ split records 1 w 0
      ∙ rw (← here, lt-ltb at (length w) inside)

-- Reading has come to a place, past some records that make some terms.
pub record Reached (w : List ℕ) (records at terms : ℕ) : Type 0 where
  pub place : at ≡ place_after records w 0
  pub many : terms ≡ length (made (first_calls w records))

pub reached_start : (w : List ℕ) → Reached w 0 0 0
unfolding calls_from made
reached_start w = record { place = place-start w; many = refl }

pub reached_next : {w : List ℕ} {records at terms : ℕ} → Reached w records at terms → at < length w
    → Reached w (records + 1) (next_at bare w at) (terms + bit (makes_term (operation_at w at)))
reached_next {w} {records} {at} {terms} here inside = record {
  place = place-more w records at here.place;
  many = rw (
    add-one records,
    first_more w records at here.place inside,
    made_append,
    length-append,
    here.many,
    ← made_at w at,
  )
      (ap (λ (n : ℕ). length (made (first_calls w records)) + n) (made_one (call_at w at)));
}

-- The place of a term is that of the call that makes it.
pub made-place : (n : ℕ) (w : List ℕ) (at k : ℕ) → k < length (made (calls_from n w at))
    → call_at w (term_place n w at k) ≡ get_or (made (calls_from n w at)) k c.check
unfolding calls_from term_place made
made-place zero w at k h = absurd (omega arith)
made-place (suc n) w at k h = go (ltb at (length w)) refl (made-place n w (next_at bare w at)) h
  where
    go : (b : Bool) → ltb at (length w) ≡ b
        → ((k : ℕ) → k < length (made (calls_from n w (next_at bare w at)))
        → call_at w (term_place n w (next_at bare w at) k) ≡ get_or (made (calls_from n w (next_at bare w at))) k c.check)
        → k < length (made (calls_from (suc n) w at))
        → call_at w (term_place (suc n) w at k) ≡ get_or (made (calls_from (suc n) w at)) k c.check
    go false e rest l = absurd (let z : k < 0 = rw e at l in omega arith)
    go true e rest l = rw e (here (makes (call_at w at)) refl k (rw e at l))
      where
        here : (m : Bool) → makes (call_at w at) ≡ m → (k : ℕ)
            → k < length (made (call_at w at ∷ calls_from n w (next_at bare w at)))
            → call_at w
            (cond (makes_term (operation_at w at)) (cond (eqb k 0) at (term_place n w (next_at bare w at) (k - 1)))
            (term_place n w (next_at bare w at) k))
            ≡ get_or (made (call_at w at ∷ calls_from n w (next_at bare w at))) k c.check
        here true m zero l = rw (← made_at w at, m, made_more (call_at w at) (calls_from n w (next_at bare w at)) m)
        here true m (suc k) l =
            rw (
              ← made_at w at,
              m,
              made_more (call_at w at) (calls_from n w (next_at bare w at)) m,
              eqb-suc-zero k,
              sub-one (suc k),
            )
            (rest k (le_of_suc-le-suc (rw (made_more (call_at w at) (calls_from n w (next_at bare w at)) m) at l)))
        here false m k l =
            rw (← made_at w at, m, made-less (call_at w at) (calls_from n w (next_at bare w at)) m)
            (rest k (rw (made-less (call_at w at) (calls_from n w (next_at bare w at)) m) at l))
