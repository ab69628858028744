-- What more calls after a list leave as it was: the values of its terms, and with them its assertions; and an
-- assignment counts only on the names that a list declares.
use mathlib.Core.Path.{◌≡◌, refl, sym, ap, ◌∙◌}
use mathlib.Core.List.Memᴰ
use mathlib.Core.List.{List, [], ◌∷◌, ◌++◌}
use Prim.Native.Nat.{ℕ, suc, ◌+◌, ◌<◌}
use native.Mathlib.Omega.{arith}
use lib.ListN.{length}
use Rattle.engine.specs.Call.{Name, Call}
use Rattle.engine.specs.Call as c
use Rattle.engine.specs.Meaning.{Value, bits, Assignment, value_at, denote, run, Fits, Asserted, Earlier, terms}
use Rattle.engine.proofs.Laws.{run_keeps, run_append, length_run}
use Rattle.requirement.specs.Requirement3.{declared_names, IsDeclared}

-- Assertions of earlier terms see only the values of those.
asserted-same : (v u : ℕ → Value) (n : ℕ) (cs : List Call) → ((k : ℕ) → k < n + terms cs → v k ≡ u k) → Earlier n cs →
    Asserted v cs → Asserted u cs
unfolding terms
asserted-same v u n [] e w h = tt
asserted-same v u n (c.term t ∷ cs) e w h = asserted-same v u (suc n) cs (λ k l. e k (omega arith)) w.1 h
asserted-same v u n (c.declare name i ∷ cs) e w h = asserted-same v u (suc n) cs (λ k l. e k (omega arith)) w h
asserted-same v u n (c.assert a ∷ cs) e w h =
    (sym (e a (let l = w.0 in omega arith)) ∙ h.0, asserted-same v u n cs e w.1 h.1)
asserted-same v u n (c.check ∷ cs) e w h = asserted-same v u n cs e w h

-- The value of a term of a list, in a longer list.
pub value_on : (ρ : Assignment) (cs ds : List Call) (k : ℕ) → k < terms cs → value_at (run ρ [] (cs ++ ds)) k
    ≡ value_at (run ρ [] cs) k
value_on ρ cs ds k l =
    ap (λ (r : List Value). value_at r k) (run_append ρ [] cs ds)
    ∙ run_keeps ρ (run ρ [] cs) ds k (let e = length_run ρ [] cs in omega arith)

pub asserted_on : (ρ : Assignment) (cs ds : List Call) → Earlier 0 cs → Asserted (value_at (run ρ [] cs)) cs →
    Asserted (value_at (run ρ [] (cs ++ ds))) cs
asserted_on ρ cs ds w h = asserted-same _ _ 0 cs (λ k l. sym (value_on ρ cs ds k (omega arith))) w h

pub asserted_back : (ρ : Assignment) (cs ds : List Call) → Earlier 0 cs → Asserted (value_at (run ρ [] (cs ++ ds))) cs →
    Asserted (value_at (run ρ [] cs)) cs
asserted_back ρ cs ds w h = asserted-same _ _ 0 cs (λ k l. value_on ρ cs ds k (omega arith)) w h

pub fits-left : (ρ : Assignment) (cs ds : List Call) → Fits ρ (cs ++ ds) → Fits ρ cs
fits-left ρ [] ds h = tt
fits-left ρ (c.term t ∷ cs) ds h = fits-left ρ cs ds h
fits-left ρ (c.declare name w ∷ cs) ds h = (h.0, fits-left ρ cs ds h.1)
fits-left ρ (c.assert k ∷ cs) ds h = fits-left ρ cs ds h
fits-left ρ (c.check ∷ cs) ds h = fits-left ρ cs ds h

pub fits_append : (ρ : Assignment) (cs ds : List Call) → Fits ρ cs → Fits ρ ds → Fits ρ (cs ++ ds)
fits_append ρ [] ds h g = g
fits_append ρ (c.term t ∷ cs) ds h g = fits_append ρ cs ds h g
fits_append ρ (c.declare name w ∷ cs) ds h g = (h.0, fits_append ρ cs ds h.1 g)
fits_append ρ (c.assert k ∷ cs) ds h g = fits_append ρ cs ds h g
fits_append ρ (c.check ∷ cs) ds h g = fits_append ρ cs ds h g

-- ---- two assignments that agree on the declared names

abbrev pub AgreeOn : Assignment → Assignment → List Call → Type 0
AgreeOn ρ ρ' cs = (name : Name) → IsDeclared cs name → ρ name ≡ ρ' name

pub run_agrees : (ρ ρ' : Assignment) (l : List Value) (cs : List Call) → AgreeOn ρ ρ' cs → run ρ l cs ≡ run ρ' l cs
unfolding run declared_names
run_agrees ρ ρ' l [] e = refl
run_agrees ρ ρ' l (c.term t ∷ cs) e = run_agrees ρ ρ' (l ++ (denote (value_at l) t ∷ [])) cs e
run_agrees ρ ρ' l (c.declare name w ∷ cs) e =
    ap (λ (s : _). run ρ (l ++ (bits s ∷ [])) cs) (e name (Memᴰ.head refl))
    ∙ run_agrees ρ ρ' (l ++ (bits (ρ' name) ∷ [])) cs (λ n m. e n (Memᴰ.tail m))
run_agrees ρ ρ' l (c.assert k ∷ cs) e = run_agrees ρ ρ' l cs e
run_agrees ρ ρ' l (c.check ∷ cs) e = run_agrees ρ ρ' l cs e

pub fits_agrees : (ρ ρ' : Assignment) (cs : List Call) → AgreeOn ρ ρ' cs → Fits ρ cs → Fits ρ' cs
unfolding declared_names
fits_agrees ρ ρ' [] e h = tt
fits_agrees ρ ρ' (c.term t ∷ cs) e h = fits_agrees ρ ρ' cs e h
fits_agrees ρ ρ' (c.declare name w ∷ cs) e h =
    (sym (ap length (e name (Memᴰ.head refl))) ∙ h.0, fits_agrees ρ ρ' cs (λ n m. e n (Memᴰ.tail m)) h.1)
fits_agrees ρ ρ' (c.assert k ∷ cs) e h = fits_agrees ρ ρ' cs e h
fits_agrees ρ ρ' (c.check ∷ cs) e h = fits_agrees ρ ρ' cs e h
