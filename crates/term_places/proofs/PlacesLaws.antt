-- Laws of the definitions of Places.
use mathlib.Core.Path.{◌≡◌, refl, sym, ap, ap₂, ◌∙◌, subst}
use mathlib.Core.Bool.{Bool, true, false, cond, ◌&&◌}
use mathlib.Core.List.{List}
use Prim.Native.Nat.{ℕ, zero, suc, ◌+◌, ◌-◌, ◌*◌, ◌/◌, ◌%◌, ◌≤◌, ◌<◌}
use native.Mathlib.Nat.{mod-eq_of_lt, div-add-mod'}
use native.Mathlib.Omega.{arith}
use native.Mathlib.Decide.{ℕ_discrete}
use native.Mathlib.Numerals.{sub-one}
use lib.Arith.{digits_div, digits_mod}
use lib.ListN.{length, get_or, set, length-set}
use lib.Seq.{get_or-set_same, get_or-set_other}
use lib.Dec.{eqb, leb, ltb}
use borrow.Author.Tests.{ltb-true, ltb-false, leb-true, eqb-true, eqb-false}
use Rattle.bitvec.specs.Bits.{bit}
use Rattle.engine.specs.Encode.{makes_term, operation_at, bare, next_at}
use Rattle.engine.specs.Structure.{term_place, place_of_term}
use Rattle.engine.proofs.StructureLaws.{place_end, place_here, place-next, place_skip}
use Rattle.term_places.specs.Places.{place_on, place_near, note_place, Spaced}

-- As many records as words are left are enough.
place_enough : (n m : ℕ) (w : List ℕ) (at k : ℕ) → length w - at ≤ n → length w - at ≤ m → term_place n w at k
    ≡ term_place m w at k
unfolding term_place
place_enough zero m w at k h l = sym (place_end m w at k (omega arith))
place_enough (suc n) zero w at k h l = place_end (suc n) w at k (omega arith)
place_enough (suc n) (suc m) w at k h l =
    rw (
      place_enough n m w (next_at bare w at) (k - 1) (omega arith) (omega arith),
      place_enough n m w (next_at bare w at) k (omega arith) (omega arith),
    )

place-past : (m : ℕ) (w : List ℕ) (at a b n : ℕ) → length w ≤ at → term_place m w (term_place n w at a) b ≡ term_place n w
    at (a + b)
place-past m w at a b n p =
    ap (λ (q : ℕ). term_place m w q b) (place_end n w at a p) ∙ place_end m w at b p ∙ sym (place_end n w at (a + b) p)

-- Counting on from a term's record finds the terms after it.
place_on_lem : (n m : ℕ) (w : List ℕ) (at a b : ℕ) → length w - at ≤ n → length w - term_place n w at a ≤ m
    → term_place m w (term_place n w at a) b ≡ term_place n w at (a + b)
place_on_lem zero m w at a b h l = place-past m w at a b 0 (omega arith)
place_on_lem (suc n) m w at a b h l =
    go (ltb at (length w)) refl (makes_term (operation_at w at)) refl a l
    (λ j p q. place_on_lem n m w (next_at bare w at) j b p q)
  where
    fuel : suc n - 1 ≡ n
    fuel = sub-one (suc n)

    go : (i : Bool) → ltb at (length w) ≡ i → (makes : Bool) → makes_term (operation_at w at) ≡ makes → (a : ℕ)
        → length w - term_place (suc n) w at a ≤ m
        → ((j : ℕ) → length w - next_at bare w at ≤ n → length w - term_place n w (next_at bare w at) j ≤ m
        → term_place m w (term_place n w (next_at bare w at) j) b ≡ term_place n w (next_at bare w at) (j + b))
        → term_place m w (term_place (suc n) w at a) b ≡ term_place (suc n) w at (a + b)
    go false i makes e a l on = place-past m w at a b (suc n) (ltb-false at (length w) i)
    go true i true e zero l on =
        let here = place_here w at 0 (ltb-true at (length w) i) (suc n) (omega arith) e refl in
        ap (λ (q : ℕ). term_place m w q b) here
        ∙ place_enough m (suc n) w at b (subst (λ (q : ℕ). length w - q ≤ m) here l) h
        ∙ ap (term_place (suc n) w at) (let z : b ≡ 0 + b = omega arith in z)
    go true i true e (suc a) l on =
        let inside = ltb-true at (length w) i in
        let here =
        place-next w at (suc a) inside (suc n) (omega arith) e (λ z. absurd (omega arith))
        ∙ ap₂ (λ (f j : ℕ). term_place f w (next_at bare w at) j) fuel (sub-one (suc a)) in
        let there =
        place-next w at (suc a + b) inside (suc n) (omega arith) e (λ z. absurd (omega arith))
        ∙ ap₂ (λ (f j : ℕ). term_place f w (next_at bare w at) j) fuel (let z : suc a + b - 1 ≡ a + b = omega arith in z)
        in
        ap (λ (q : ℕ). term_place m w q b) here ∙ on a (omega arith) (subst (λ (q : ℕ). length w - q ≤ m) here l)
        ∙ sym there
    go true i false e a l on =
        let inside = ltb-true at (length w) i in
        let here = place_skip w at a inside (suc n) (omega arith) e
        ∙ ap (λ (f : ℕ). term_place f w (next_at bare w at) a) fuel in
        let there =
        place_skip w at (a + b) inside (suc n) (omega arith) e
        ∙ ap (λ (f : ℕ). term_place f w (next_at bare w at) (a + b)) fuel in
        ap (λ (q : ℕ). term_place m w q b) here ∙ on a (omega arith) (subst (λ (q : ℕ). length w - q ≤ m) here l)
        ∙ sym there

pub spaced-start : (w places : List ℕ) (gap : ℕ) → Spaced w places gap 0
spaced-start w places gap small i inside low = absurd (omega arith)

pub place_near_lem : (w places : List ℕ) (gap terms : ℕ) → Spaced w places gap terms → (k : ℕ) → k < terms
    → place_near places gap w k ≡ place_of_term w k
place_near_lem w places gap terms spaced k h =
    go (leb (length w) 4294967296) refl (ltb (k / (gap + 1)) (length places)) refl
  where
    whole : k / (gap + 1) * (gap + 1) + k % (gap + 1) ≡ k
    whole = div-add-mod' k (gap + 1)

    -- On from the record of the term noted before.
    on : (b : Bool) → eqb (k % (gap + 1)) 0 ≡ b
        → cond b (place_of_term w (k / (gap + 1) * (gap + 1)))
        (term_place (length w) w (place_of_term w (k / (gap + 1) * (gap + 1))) (k % (gap + 1)))
        ≡ place_of_term w k
    on true e =
        let none = eqb-true (k % (gap + 1)) 0 e in
        ap (place_of_term w) (let z = whole in omega arith)
    on false e =
        place_on_lem (length w) (length w) w 0 (k / (gap + 1) * (gap + 1)) (k % (gap + 1)) (omega arith) (omega arith)
        ∙ ap (term_place (length w) w 0) whole

    go : (a : Bool) → leb (length w) 4294967296 ≡ a → (b : Bool) → ltb (k / (gap + 1)) (length places) ≡ b
        → cond (a && b) (place_on w (get_or places (k / (gap + 1)) 0) (k % (gap + 1))) (place_of_term w k)
        ≡ place_of_term w k
    go true e true f =
        ap (λ (q : ℕ). place_on w q (k % (gap + 1)))
        (spaced (leb-true (length w) 4294967296 e) (k / (gap + 1)) (ltb-true (k / (gap + 1)) (length places) f)
        (let z = whole in omega arith))
        ∙ on (eqb (k % (gap + 1)) 0) refl
    go true e false f = refl
    go false e b f = refl

-- What a record adds to the table of places, where the next term is made at its place.
pub spaced-noted : (w : List ℕ) (at terms : ℕ) → at < length w
    → (makes_term (operation_at w at) ≡ true → place_of_term w terms ≡ at)
    → (places : List ℕ) (gap : ℕ) → Spaced w places gap terms
    → Spaced w (note_place places gap w at terms) gap (terms + bit (makes_term (operation_at w at)))
spaced-noted w at terms within next places gap spaced small i =
    go (makes_term (operation_at w at)) refl (eqb (terms % (gap + 1)) 0) refl
  where
    whole : terms / (gap + 1) * (gap + 1) + terms % (gap + 1) ≡ terms
    whole = div-add-mod' terms (gap + 1)

    -- A multiple has no remainder and its own quotient.
    multiple : i * (gap + 1) ≡ terms → (terms % (gap + 1) ≡ 0) × (i ≡ terms / (gap + 1))
    multiple e =
        let sum : i * (gap + 1) + 0 ≡ terms = omega arith in
        let room : 0 < gap + 1 = omega arith in (
          ap (λ (n : ℕ). n % (gap + 1)) (sym sum) ∙ digits_mod i room,
          sym (ap (λ (n : ℕ). n / (gap + 1)) (sym sum) ∙ digits_div i room),
        )

    here : Dec (i ≡ terms / (gap + 1)) → makes_term (operation_at w at) ≡ true → terms % (gap + 1) ≡ 0 →
        i < length places
        → i * (gap + 1) < terms + 1
        → get_or (set places (terms / (gap + 1)) (at % 4294967296)) i 0 ≡ place_of_term w (i * (gap + 1))
    here (yes e) makes none inside low =
        let fits : at < 4294967296 = omega arith in
        let same : i * (gap + 1) ≡ terms = ap (λ (n : ℕ). n * (gap + 1)) e ∙ (let z = whole in omega arith) in
        ap (λ (n : ℕ). get_or (set places (terms / (gap + 1)) (at % 4294967296)) n 0) e
        ∙ get_or-set_same places (terms / (gap + 1)) (at % 4294967296) 0 (omega arith)
        ∙ mod-eq_of_lt fits ∙ sym (ap (place_of_term w) same ∙ next makes)
    here (no e) makes none inside low =
        let other : i * (gap + 1) ≡ terms → ⊥ = λ q. e (multiple q).1 in
        get_or-set_other places (terms / (gap + 1)) i (at % 4294967296) 0 e ∙ spaced small i inside (omega arith)

    go : (b : Bool) → makes_term (operation_at w at) ≡ b → (d : Bool) → eqb (terms % (gap + 1)) 0 ≡ d
        → i < length (note_place places gap w at terms) → i * (gap + 1) < terms + bit (makes_term (operation_at w at))
        → get_or (note_place places gap w at terms) i 0 ≡ place_of_term w (i * (gap + 1))
    go true e true f inside low =
        let inside' : i < length (set places (terms / (gap + 1)) (at % 4294967296)) = rw (e, f) at inside in
        let low' : i * (gap + 1) < terms + 1 = rw e at low in
        let same = length-set places (terms / (gap + 1)) (at % 4294967296) in
        rw (e, f) (here (ℕ_discrete i (terms / (gap + 1))) e (eqb-true (terms % (gap + 1)) 0 f) (omega arith) low')
    go true e false f inside low =
        let inside' : i < length places = rw (e, f) at inside in
        let low' : i * (gap + 1) < terms + 1 = rw e at low in
        let other : i * (gap + 1) ≡ terms → ⊥ = λ q. eqb-false (terms % (gap + 1)) 0 f (multiple q).0 in
        rw (e, f) (spaced small i inside' (omega arith))
    go false e d f inside low =
        let inside' : i < length places = rw e at inside in
        let low' : i * (gap + 1) < terms + 0 = rw e at low in
        rw e (spaced small i inside' (omega arith))
