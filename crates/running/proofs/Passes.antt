-- The first elements of a list, as many as are wanted and there are; and what a pass leaves, from what it calls.
-- Assumes nothing.
use mathlib.Core.Path.{◌≡◌, refl, sym, ap, subst, ◌∙◌}
use mathlib.Core.List.{List, [], ◌∷◌}
use Prim.Native.Nat.{ℕ, zero, suc, min}
use native.Mathlib.Nat.{zero-min, min-zero, suc-min-suc}
use lib.ListN.{length, take, length-take}
use Rattle.cell.specs.Design.{Design}
use Rattle.builder.specs.declared.Counts.{Counts}
use Rattle.net_steps.specs.Did.{Asks}
use Rattle.net_pairs.specs.declared.Walked.{Walked}
use Rattle.walk.specs.Works.{Works}
use Rattle.running.specs.Passes.{Passed}

pub take-least : (n : ℕ) (l : List ℕ) → take (min n (length l)) l ≡ take n l
take-least zero l = ap (λ (m : ℕ). take m l) (zero-min (length l))
take-least (suc n) [] = ap (λ (m : ℕ). take {A = ℕ} m []) (min-zero (suc n))
take-least (suc n) (x ∷ l) =
    ap (λ (m : ℕ). take m (x ∷ l)) (suc-min-suc n (length l)) ∙ ap (λ (k : List ℕ). x ∷ k) (take-least n l)

pub least-count : (n m : ℕ) (l : List ℕ) → m ≡ min n (length l) → m ≡ length (take m l)
least-count n m l is =
    is ∙ sym (ap (λ (k : ℕ). length (take k l)) is ∙ ap length (take-least n l) ∙ length-take n l)

-- The walk's work, then check over the terms for which there is room.
pub passes : {d : Design} {c c' : Counts} {calls names marks eqs between calls' names' marks' eqs' : List ℕ}
    {s : Walked} {asked : ℕ}
    → Works d calls names marks eqs c between names' marks' eqs' s → length eqs' ≡ length eqs
    → asked ≡ min s.obligations (length eqs')
    → Asks (take asked eqs') between s.counts calls' c'
    → Passed d c calls names marks eqs calls' names' marks' eqs' c' s.obligations
passes {c' = c'} {between = between} {calls' = calls'} {eqs' = eqs'} {s = s} works long least asks =
    let first = ap (λ (m : ℕ). take m eqs') least ∙ take-least s.obligations eqs' in
    record {
      between = between;
      walked = s;
      works = works;
      asks = subst (λ (l : List ℕ). Asks l between s.counts calls' c') first asks;
      same = refl;
      long = long;
    }
