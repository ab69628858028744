-- Where the record of the next term stands.
use mathlib.Core.Path.{◌≡◌, ap, ap₂, ◌∙◌}
use mathlib.Core.Bool.{true}
use mathlib.Core.List.{List}
use Prim.Native.Nat.{ℕ, zero, suc, ◌-◌, ◌≤◌, ◌<◌}
use native.Mathlib.Omega.{arith}
use native.Mathlib.Numerals.{sub-one}
use lib.ListN.{length}
use Rattle.engine.proofs.Laws.{length_snoc}
use Rattle.engine.specs.Sorts.{Context, start, after}
use Rattle.engine.specs.Structure.{term_place, place_of_term}
use Rattle.engine.proofs.StructureLaws.{place_here, place-next, place_skip}
use Rattle.engine.proofs.ReachedLaws.{Makes, one, nothing, makes-at, makes-op, passes_forward}
use Rattle.engine.specs.Reached.{Right, Passes}
use Rattle.engine.specs.Encode.{makes_term, operation_at, bare, next_at, call_at}

-- A scan for the next term, from a place before, finds the record that makes it.
place_found : (n m : ℕ) (w : List ℕ) (at : ℕ) (x : Context) (end : ℕ) (y : Context) → Passes n w at x end y → n < m
    → end < length w → makes_term (operation_at w end) ≡ true
    → (length x.sorts ≤ length y.sorts) × (term_place m w at (length y.sorts - length x.sorts) ≡ end)
place_found zero m w at x end y p h inside makes =
    let e = p.0 in
    let same = ap (λ (z : Context). length z.sorts) p.1 in
    let none_left : length y.sorts - length x.sorts ≡ 0 = omega arith in
    let here = place_here w end (length y.sorts - length x.sorts) inside m (omega arith) makes none_left in
    (omega arith, ap (λ (k : ℕ). term_place m w k (length y.sorts - length x.sorts)) e ∙ here)
place_found (suc n) zero w at x end y p h inside makes = absurd (omega arith)
place_found (suc n) (suc m) w at x end y p h inside makes =
    go (place_found n m w (next_at bare w at) (after x (call_at w at)) end y p.1 (omega arith) inside makes)
    (makes-at w at x p.0)
  where
    go : (length (after x (call_at w at)).sorts ≤ length y.sorts)
        × (term_place m w (next_at bare w at) (length y.sorts - length (after x (call_at w at)).sorts) ≡ end)
        → Makes x (call_at w at)
        → (length x.sorts ≤ length y.sorts)
        × (term_place (suc m) w at (length y.sorts - length x.sorts) ≡ end)
    go rest (one s a t q b) =
        let more : length (after x (call_at w at)).sorts ≡ suc (length x.sorts) = ap length a
        ∙ length_snoc x.sorts s in
        let far = rest.0 in
        let next =
        place-next w
        at (length y.sorts - length x.sorts) p.0.inside (suc m) (omega arith) (makes-op w at x p.0 ∙ t)
        (λ z. absurd (omega arith)) in
        let left : length y.sorts - length x.sorts - 1
        ≡ length y.sorts - length (after x (call_at w at)).sorts = omega arith in
        (omega arith, next ∙ ap₂ (λ (f j : ℕ). term_place f w (next_at bare w at) j) (sub-one (suc m)) left ∙ rest.1)
    go rest (nothing a t) =
        let same : length (after x (call_at w at)).sorts ≡ length x.sorts = ap length a in
        let far = rest.0 in
        let next = place_skip w
        at (length y.sorts - length x.sorts) p.0.inside (suc m) (omega arith)
        (makes-op w at x p.0 ∙ t) in
        let left : length y.sorts - length x.sorts ≡ length y.sorts - length (after x (call_at w at)).sorts =
        omega arith in
        (omega arith, next ∙ ap₂ (λ (f j : ℕ). term_place f w (next_at bare w at) j) (sub-one (suc m)) left ∙ rest.1)

-- The next term is made at the place that reading has come to.
pub next_place : (n : ℕ) (w : List ℕ) (at : ℕ) (x : Context) → Passes n w 0 start at x → Right w at x
    → makes_term (operation_at w at) ≡ true → place_of_term w (length x.sorts) ≡ at
next_place n w at x passes right makes =
    let ahead = passes_forward n w 0 start at x passes in
    let inside = right.inside in
    let found = place_found n (length w) w 0 start at x passes (omega arith) inside makes in
    ap (term_place (length w) w 0) (let z : length x.sorts ≡ length x.sorts - 0 = omega arith in z) ∙ found.1
