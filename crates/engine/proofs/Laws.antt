-- Laws of the meaning of calls: later calls leave earlier values alone, and a list is satisfied exactly where some
-- valuation of its terms meets every call.
use mathlib.Core.Path.{◌≡◌, refl, sym, ap, ap₂, ◌∙◌}
use mathlib.Core.Bool.{Bool, false}
use mathlib.Core.List.{List, [], ◌∷◌, ◌++◌, map}
use Prim.Native.Nat.{ℕ, suc, ◌+◌, ◌<◌}
use native.Mathlib.Nat.{le_refl}
use native.Mathlib.Omega.{arith}
use native.Mathlib.Decide.{ℕ_discrete}
use lib.ListN.{length, length-append, get_or-append}
use lib.Seq.{get_or-append_seam}
use Rattle.engine.specs.Call.{Term, Call}
use Rattle.engine.specs.Call as c
use Rattle.engine.specs.Meaning.{Value, bool, bits, as_bool, Assignment, denote, value_at, run, Fits, Asserted, Sat}
use Rattle.engine.specs.Meaning.{arguments_of, All, Earlier, terms, Holds}
use Rattle.engine.proofs.MeaningLaws.{Agrees}

pub All-map : (P Q : ℕ → Type 0) → ((k : ℕ) → P k → Q k) → (l : List ℕ) → All P l → All Q l
All-map P Q h [] t = tt
All-map P Q h (k ∷ l) t = (h k t.0, All-map P Q h l t.1)

-- What a term means depends on the values of its arguments only.
and_ext : (v u : ℕ → Value) (l : List ℕ) → All (λ a. v a ≡ u a) l
    → map (λ k. as_bool (v k)) l ≡ map (λ k. as_bool (u k)) l
and_ext v u [] h = refl
and_ext v u (k ∷ l) h = ap₂ (λ (b : Bool) (r : List Bool). b ∷ r) (ap as_bool h.0) (and_ext v u l h.1)

pub denote_ext : (v u : ℕ → Value) (t : Term) → All (λ a. v a ≡ u a) (arguments_of t) → denote v t ≡ denote u t
denote_ext v u (c.bool_lit b) h = refl
denote_ext v u (c.bool_ite i a b) h = cc
denote_ext v u (c.not a) h = cc
denote_ext v u (c.and l) h = rw (and_ext v u l h)
denote_ext v u (c.lit s) h = refl
denote_ext v u (c.equal a b) h = cc
denote_ext v u (c.ite i a b) h = cc
denote_ext v u (c.concat a b) h = cc
denote_ext v u (c.extract i j a) h = cc
denote_ext v u (c.bvnot a) h = cc
denote_ext v u (c.op2 o a b) h = cc
denote_ext v u (c.compare o a b) h = cc

pub length_snoc : {A : Type 0} (l : List A) (a : A) → length (l ++ (a ∷ [])) ≡ suc (length l)
length_snoc l a = length-append l (a ∷ []) ∙ omega arith

-- Values of the terms so far, with one more: the earlier ones and the last.
module _ (l : List Value) (a : Value) where
  kept : (k : ℕ) → k < length l → value_at (l ++ (a ∷ [])) k ≡ value_at l k
  kept k h = get_or-append l (a ∷ []) (bool false) k h

  last : value_at (l ++ (a ∷ [])) (length l) ≡ a
  last = get_or-append_seam l a [] (bool false)

  longer : (k : ℕ) → k < length l → k < length (l ++ (a ∷ []))
  longer k h = rw (length_snoc l a) (omega arith)

  grown : length l < length (l ++ (a ∷ []))
  grown = rw (length_snoc l a) (le_refl (suc (length l)))

-- Later calls leave earlier values alone.
pub run_keeps : (ρ : Assignment) (l : List Value) (cs : List Call) (k : ℕ) → k < length l
    → value_at (run ρ l cs) k ≡ value_at l k
unfolding run
run_keeps ρ l [] k h = refl
run_keeps ρ l (c.term t ∷ cs) k h = let a = denote (value_at l) t in
    run_keeps ρ (l ++ (a ∷ [])) cs k (longer l a k h) ∙ kept l a k h
run_keeps ρ l (c.declare name w ∷ cs) k h = let a = bits (ρ name) in
    run_keeps ρ (l ++ (a ∷ [])) cs k (longer l a k h) ∙ kept l a k h
run_keeps ρ l (c.assert a ∷ cs) k h = run_keeps ρ l cs k h
run_keeps ρ l (c.check ∷ cs) k h = run_keeps ρ l cs k h

pub run_append : (ρ : Assignment) (l : List Value) (cs ds : List Call) → run ρ l (cs ++ ds) ≡ run ρ (run ρ l cs) ds
unfolding run
run_append ρ l [] ds = refl
run_append ρ l (c.term t ∷ cs) ds = run_append ρ (l ++ (denote (value_at l) t ∷ [])) cs ds
run_append ρ l (c.declare name w ∷ cs) ds = run_append ρ (l ++ (bits (ρ name) ∷ [])) cs ds
run_append ρ l (c.assert a ∷ cs) ds = run_append ρ l cs ds
run_append ρ l (c.check ∷ cs) ds = run_append ρ l cs ds

pub length_run : (ρ : Assignment) (l : List Value) (cs : List Call) → length (run ρ l cs) ≡ length l + terms cs
unfolding run terms
length_run ρ l [] = omega arith
length_run ρ l (c.term t ∷ cs) =
    length_run ρ (l ++ (denote (value_at l) t ∷ [])) cs ∙ (let s = length_snoc l (denote (value_at l) t) in omega arith)
length_run ρ l (c.declare name w ∷ cs) =
    length_run ρ (l ++ (bits (ρ name) ∷ [])) cs ∙ (let s = length_snoc l (bits (ρ name)) in omega arith)
length_run ρ l (c.assert a ∷ cs) = length_run ρ l cs
length_run ρ l (c.check ∷ cs) = length_run ρ l cs

-- The valuation of a list whose arguments come before meets it, where its assertions are true.
pub run_holds : (ρ : Assignment) (l : List Value) (cs : List Call) → Earlier (length l) cs → Fits ρ cs
    → Asserted (value_at (run ρ l cs)) cs → Holds ρ (value_at (run ρ l cs)) (length l) cs
unfolding run
run_holds ρ l [] e f s = tt
run_holds ρ l (c.term t ∷ cs) e f s = let a = denote (value_at l) t in (
  run_keeps ρ (l ++ (a ∷ [])) cs (length l) (grown l a) ∙ last l a
      ∙ denote_ext (value_at l) (value_at (run ρ l (c.term t ∷ cs))) t
      (All-map (λ k. k < length l) _ (λ k h. sym (run_keeps ρ l (c.term t ∷ cs) k h)) (arguments_of t) e.0),
  rw (length_snoc l a) at (run_holds ρ (l ++ (a ∷ [])) cs (rw (length_snoc l a) e.1) f s),
)
run_holds ρ l (c.declare name w ∷ cs) e f s = let a = bits (ρ name) in (
  run_keeps ρ (l ++ (a ∷ [])) cs (length l) (grown l a) ∙ last l a,
  f.0,
  rw (length_snoc l a) at (run_holds ρ (l ++ (a ∷ [])) cs (rw (length_snoc l a) e) f.1 s),
)
run_holds ρ l (c.assert a ∷ cs) e f s = (s.0, run_holds ρ l cs e.1 f s.1)
run_holds ρ l (c.check ∷ cs) e f s = run_holds ρ l cs e f s

snoc_agrees : (v : ℕ → Value) (l : List Value) (a : Value) → Agrees v l → v (length l) ≡ a → Agrees v (l ++ (a ∷ []))
snoc_agrees v l a h e k b = go (ℕ_discrete k (length l))
  where
    go : Dec (k ≡ length l) → v k ≡ value_at (l ++ (a ∷ [])) k
    go (yes q) = rw q (e ∙ sym (last l a))
    go (no q) =
        let lower : k < length l = (let s = length_snoc l a in omega arith) in
        h k lower ∙ sym (kept l a k lower)

-- A valuation that meets a list is the list's own.
pub holds_run : (ρ : Assignment) (v : ℕ → Value) (l : List Value) (cs : List Call) → Earlier (length l) cs → Agrees v l
    → Holds ρ v (length l) cs → Agrees v (run ρ l cs)
unfolding run
holds_run ρ v l [] e g h = g
holds_run ρ v l (c.term t ∷ cs) e g h =
    let a = denote (value_at l) t in
    let q : v (length l) ≡ denote (value_at l) t =
    h.0 ∙ denote_ext v (value_at l) t (All-map (λ k. k < length l) _ (λ k b. g k b) (arguments_of t) e.0) in
    holds_run ρ v (l ++ (a ∷ [])) cs (rw (length_snoc l a) e.1) (snoc_agrees v l a g q) (rw (length_snoc l a) h.1)
holds_run ρ v l (c.declare name w ∷ cs) e g h =
    let a = bits (ρ name) in
    holds_run ρ v (l ++ (a ∷ [])) cs (rw (length_snoc l a) e) (snoc_agrees v l a g h.0) (rw (length_snoc l a) h.2)
holds_run ρ v l (c.assert a ∷ cs) e g h = holds_run ρ v l cs e.1 g h.1
holds_run ρ v l (c.check ∷ cs) e g h = holds_run ρ v l cs e g h

pub holds_fits : (ρ : Assignment) (v : ℕ → Value) (n : ℕ) (cs : List Call) → Holds ρ v n cs → Fits ρ cs
holds_fits ρ v n [] h = tt
holds_fits ρ v n (c.term t ∷ cs) h = holds_fits ρ v (suc n) cs h.1
holds_fits ρ v n (c.declare name w ∷ cs) h = (h.1, holds_fits ρ v (suc n) cs h.2)
holds_fits ρ v n (c.assert a ∷ cs) h = holds_fits ρ v n cs h.1
holds_fits ρ v n (c.check ∷ cs) h = holds_fits ρ v n cs h

holds_asserted : (ρ : Assignment) (v u : ℕ → Value) (n : ℕ) (cs : List Call)
    → ((k : ℕ) → k < n + terms cs → v k ≡ u k) → Earlier n cs → Holds ρ v n cs → Asserted u cs
unfolding terms
holds_asserted ρ v u n [] g e h = tt
holds_asserted ρ v u n (c.term t ∷ cs) g e h =
    holds_asserted ρ v u (suc n) cs (λ k l. g k (omega arith)) e.1 h.1
holds_asserted ρ v u n (c.declare name w ∷ cs) g e h =
    holds_asserted ρ v u (suc n) cs (λ k l. g k (omega arith)) e h.2
holds_asserted ρ v u n (c.assert a ∷ cs) g e h =
    (sym (g a (let b = e.0 in omega arith)) ∙ h.0, holds_asserted ρ v u n cs g e.1 h.1)
holds_asserted ρ v u n (c.check ∷ cs) g e h = holds_asserted ρ v u n cs g e h

-- A list is satisfied exactly where a valuation meets it.
pub holds_sat : (ρ : Assignment) (v : ℕ → Value) (cs : List Call) → Earlier 0 cs → Holds ρ v 0 cs → Sat ρ cs
holds_sat ρ v cs e h = (
  holds_fits ρ v 0 cs h,
  holds_asserted ρ v (value_at (run ρ [] cs)) 0 cs
      (λ k l. holds_run ρ v [] cs e (λ k l. absurd (omega arith)) h k (let q = length_run ρ [] cs in omega arith)) e h,
)

pub sat_holds : (ρ : Assignment) (cs : List Call) → Earlier 0 cs → Sat ρ cs → Holds ρ (value_at (run ρ [] cs)) 0 cs
sat_holds ρ cs e s = run_holds ρ [] cs e s.0 s.1
