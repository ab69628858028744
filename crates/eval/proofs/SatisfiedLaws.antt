-- Laws of the definitions of Satisfied.
use mathlib.Core.Path.{◌≡◌, refl, sym, ap, ◌∙◌, subst}
use mathlib.Core.Bool.{Bool, true, false, cond, true≢false}
use mathlib.Core.List.{List, [], ◌∷◌, ◌++◌}
use Rattle.std.specs.Prelude.{Option, Some, None, Ok}
use Prim.Native.Nat.{ℕ, suc, ◌+◌, ◌^◌, ◌≤◌, ◌<◌}
use native.Mathlib.Omega.{arith}
use lib.ListN.{length, get_or-append}
use lib.Dec.{eqb, leb}
use borrow.Author.Tests.{lt-ltb, le-leb}
use Rattle.bitvec.specs.Bits.{bv2nat}
use Rattle.bitvec.proofs.Laws.{nat2bv_of, bv2nat_lt}
use Rattle.engine.specs.Call.{Call}
use Rattle.engine.specs.Call as c
use Rattle.engine.proofs.Laws.{length_snoc}
use Rattle.engine.specs.Meaning.{Value, bool, bits, Assignment, value_at, run, Fits, Asserted, Sat}
use Rattle.engine.specs.Sorts.{Sort, sort_at, sort_of, Context, start, after, Formed, leaves}
use Rattle.engine.proofs.SortsLaws.{OfSort}
use Rattle.engine.proofs.SortLaws.{Sorted, there}
use Rattle.engine.specs.Encode.{decode}
use Rattle.engine.specs.WellFormed.{Outcome, well_formed, malformed, outcome}
use Rattle.engine.proofs.ReadBack.{decode-formed}
use Rattle.bits_given.specs.Given.{bits_fault}
use Rattle.term_values.specs.Values.{value_number}
use Rattle.eval.specs.Evaluated.{assigned, false_assertions, term_values, refused, on_bits, with_room}
use Rattle.eval.specs.Evaluated.{judged, answer}
use Rattle.eval.proofs.AssignedLaws.{rest, Gives, assigned_gives, assigned-fits}
use Rattle.eval.proofs.RecordLaws.{values_sorted}
use Rattle.eval.specs.Satisfied.{bits_of}

-- The sort of a term stays.
sort_snoc : (x : Context) (s : Sort) (cs : List Call) (k : ℕ) → k < length x.sorts
    → (k < length (x.sorts ++ (s ∷ []))) × (sort_at (x.sorts ++ (s ∷ [])) k ≡ sort_at x.sorts k)
sort_snoc x s cs k low =
    (let more = length_snoc x.sorts s in omega arith, get_or-append x.sorts (s ∷ []) 65 k low)

sort_stays : (x : Context) (cs : List Call) (k : ℕ) → k < length x.sorts → sort_at (leaves x cs).sorts k
    ≡ sort_at x.sorts k
unfolding leaves
sort_stays x [] k low = refl
sort_stays x (c.term t ∷ cs) k low =
    let here = sort_snoc x (sort_of x.sorts t) cs k low in sort_stays (after x (c.term t)) cs k here.0 ∙ here.1
sort_stays x (c.declare n w ∷ cs) k low =
    let here = sort_snoc x w cs k low in sort_stays (after x (c.declare n w)) cs k here.0 ∙ here.1
sort_stays x (c.assert a ∷ cs) k low = sort_stays x cs k low
sort_stays x (c.check ∷ cs) k low = sort_stays (after x c.check) cs k low

-- A Bool whose number is not 0 is true.
bool-true : (v : Value) → OfSort 0 v → eqb (value_number v) 0 ≡ false → v ≡ bool true
bool-true (bool true) h e = refl
bool-true (bool false) h e = absurd (true≢false e)
bool-true (bits s) h e = let low = h.0.0 in absurd (omega arith)

-- Where none is counted, every assertion is true.
none-false : (x : Context) (cs : List Call) (l : List Value) → Formed x cs → Sorted (leaves x cs).sorts l
    → false_assertions (value_at l) cs ≡ 0 → Asserted (value_at l) cs
unfolding leaves false_assertions
none-false x [] l f s e = tt
none-false x (c.term t ∷ cs) l f s e = none-false (after x (c.term t)) cs l f.2 s e
none-false x (c.declare n w ∷ cs) l f s e = none-false (after x (c.declare n w)) cs l f.2 s e
none-false x (c.assert k ∷ cs) l f s e =
    go (eqb (value_number (value_at l k)) 0) refl e (none-false x cs l f.2 s)
  where
    sort : sort_at (leaves x cs).sorts k ≡ 0
    sort = sort_stays x cs k (there x.sorts k (let z = f.1.0 in omega arith)) ∙ f.1.0

    of_sort : OfSort 0 (value_at l k)
    of_sort =
        subst (λ (n : Sort). OfSort n (value_at l k)) sort
        (s.each k (there (leaves x cs).sorts k (let z = sort in omega arith)))

    go : (b : Bool) → eqb (value_number (value_at l k)) 0 ≡ b → cond b 1 0 + false_assertions (value_at l) cs ≡ 0
        → (false_assertions (value_at l) cs ≡ 0 → Asserted (value_at l) cs) → (value_at l k ≡ bool true)
        × Asserted (value_at l) cs
    go true b e rest = absurd (omega arith)
    go false b e rest = (bool-true (value_at l k) of_sort b, rest (omega arith))
none-false x (c.check ∷ cs) l f s e = none-false (after x c.check) cs l f.2 s e

-- And where every assertion is true, none is counted.
all_true : (v : ℕ → Value) (cs : List Call) → Asserted v cs → false_assertions v cs ≡ 0
unfolding false_assertions
all_true v [] h = refl
all_true v (c.term t ∷ cs) h = all_true v cs h
all_true v (c.declare n w ∷ cs) h = all_true v cs h
all_true v (c.assert k ∷ cs) h = rw h.0 (let rest = all_true v cs h.1 in omega arith)
all_true v (c.check ∷ cs) h = all_true v cs h

-- What an answer without a fault says.
record Counted (w given : List ℕ) (n : ℕ) : Type 0 where
  leaving : Context
  formed : outcome w ≡ well_formed leaving
  count : false_assertions (value_at (term_values w given)) (decode w) ≡ n

counted : (w given : List ℕ) (room n : ℕ) → answer w given room ≡ Ok n → Counted w given n
counted w given room n = go (outcome w) refl
  where
    never : {A : Type 0} (number place : ℕ) → refused number place ≡ Ok n → A
    never number place e = let z : ◌≡◌ {A = ℕ} 0 1 = cc in absurd (omega arith)

    roomy : (x : Context) → outcome w ≡ well_formed x → (o : Option ℕ) (b : Bool)
        → on_bits o
        (with_room b (Ok (false_assertions (value_at (term_values w given)) (decode w))) (refused 20 room))
        ≡ Ok n
        → Counted w given n
    roomy x is None true e = record { leaving = x; formed = is; count = cc }
    roomy x is None false e = never 20 room e
    roomy x is (Some k) b e = never 20 k e

    go : (o : Outcome) → outcome w ≡ o → judged o w given room ≡ Ok n → Counted w given n
    go (malformed at) is e = never 19 at e
    go (well_formed x) is e = roomy x is (bits_fault 0 (decode w) given) (leb (length x.sorts) room) e

-- The evaluator counts no false assertion exactly if the assignment that gives the declared names these bits satisfies
-- the list.
pub evaluated_sat : (w given : List ℕ) (room n : ℕ) → answer w given room ≡ Ok n
    → (n ≡ 0 → Sat (assigned (decode w) given) (decode w)) × (Sat (assigned (decode w) given) (decode w) → n ≡ 0)
evaluated_sat w given room n e =
    let is = counted w given room n e in
    let all = decode-formed w is.leaving is.formed in
    let sorted : Sorted (leaves start (decode w)).sorts (term_values w given) =
    subst (λ (x : Context). Sorted x.sorts (term_values w given)) (sym all.left)
    (values_sorted w given is.leaving is.formed) in (
      λ none. (
        assigned-fits start (decode w) all.formed given,
        none-false start (decode w) (term_values w given) all.formed sorted (is.count ∙ none),
      ),
      λ sat. sym is.count ∙ all_true (value_at (term_values w given)) (decode w) sat.1,
    )

-- They fit the declared widths, and give the names what the assignment does.
bits_fit : (ρ : Assignment) (cs : List Call) (k : ℕ) → Fits ρ cs → bits_fault k cs (bits_of ρ cs) ≡ None
unfolding bits_fault bits_of
bits_fit ρ [] k f = refl
bits_fit ρ (c.term t ∷ cs) k f = bits_fit ρ cs (suc k) f
bits_fit ρ (c.declare n w ∷ cs) k f =
    rw (lt-ltb (bv2nat (ρ n)) (2 ^ w) (rw f.0 at (bv2nat_lt (ρ n)))) (bits_fit ρ cs (suc k) f.1)
bits_fit ρ (c.assert a ∷ cs) k f = bits_fit ρ cs k f
bits_fit ρ (c.check ∷ cs) k f = bits_fit ρ cs k f

bits_give : (ρ : Assignment) (cs : List Call) → Fits ρ cs → Gives ρ cs (bits_of ρ cs)
unfolding Gives bits_of
bits_give ρ [] f = tt
bits_give ρ (c.term t ∷ cs) f = bits_give ρ cs f
bits_give ρ (c.declare n w ∷ cs) f = (sym (nat2bv_of w (ρ n) f.0), bits_give ρ cs f.1)
bits_give ρ (c.assert k ∷ cs) f = bits_give ρ cs f
bits_give ρ (c.check ∷ cs) f = bits_give ρ cs f

-- Two assignments that give the names one thing make the same values.
run-same : (ρ σ : Assignment) (cs : List Call) (given : List ℕ) (l : List Value) → Gives ρ cs given → Gives σ cs given
    → run ρ l cs ≡ run σ l cs
unfolding Gives run
run-same ρ σ [] given l g h = refl
run-same ρ σ (c.term t ∷ cs) given l g h = run-same ρ σ cs given _ g h
run-same ρ σ (c.declare n w ∷ cs) given l g h =
    rw (g.0 ∙ sym h.0) (run-same ρ σ cs (rest given) (l ++ (bits (σ n) ∷ [])) g.1 h.1)
run-same ρ σ (c.assert k ∷ cs) given l g h = run-same ρ σ cs given l g h
run-same ρ σ (c.check ∷ cs) given l g h = run-same ρ σ cs given l g h

-- An assignment that satisfies a well-formed list has bits under which the evaluator, given room, counts no false
-- assertion.
pub sat_evaluated : (w : List ℕ) (y : Context) (ρ : Assignment) (room : ℕ) → outcome w ≡ well_formed y → Sat ρ (decode w)
    → length y.sorts ≤ room → answer w (bits_of ρ (decode w)) room ≡ Ok 0
sat_evaluated w y ρ room is sat enough =
    let formed = (decode-formed w y is).formed in
    let given = bits_of ρ (decode w) in
    let same : term_values w given ≡ run ρ [] (decode w) =
    run-same (assigned (decode w) given) ρ (decode w) given [] (assigned_gives start (decode w) formed given)
    (bits_give ρ (decode w) sat.0) in
    rw (is, bits_fit ρ (decode w) 0 sat.0, le-leb (length y.sorts) room enough, same)
    (ap Ok (all_true (value_at (run ρ [] (decode w))) (decode w) sat.1))
