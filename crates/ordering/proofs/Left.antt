-- Whether a node is left, by looking at one flag after the other.
use mathlib.Core.Path.{◌≡◌, refl, sym, ap, ◌∙◌}
use mathlib.Core.Bool.{Bool, true, false, not, true≢false}
use mathlib.Core.Option.{Option, none, some}
use mathlib.Core.List.{List}
use Prim.Native.Nat.{ℕ}
use lib.Dec.{eqb}
use lib.ListN.{length, get_or}
use Rattle.std.specs.List.{list_any}
use Rattle.std.proofs.lemmas.List.{get_or_default}
use Rattle.std.proofs.lemmas.List.Folds.{list_any_at, Any-from_list_any}
use Rattle.working_out.specs.Order.{is_some, lowest}
use Rattle.working_out.proofs.OrderLaws.{lowest-none, lowest-some}
use Rattle.loops.specs.Edges.{done_in}
use Rattle.ordering.specs.Words.{any_left}

-- A flag other than 0 is that of a node left.
pub left-listed : (flags : List ℕ) → list_any (λ flag. not (eqb flag 0)) flags ≡ any_left flags
unfolding any_left done_in
left-listed flags = go (list_any left flags) refl (lowest (length flags) at) refl
  where
    left : ℕ → Bool
    left flag = not (eqb flag 0)

    at : ℕ → Bool
    at a = left (get_or flags a 0)

    go : (b : Bool) → list_any left flags ≡ b → (o : Option ℕ) → lowest (length flags) at ≡ o → list_any left flags ≡ is_some o
    go b e (some a) f =
        let found = lowest-some (length flags) at a f in
        list_any_at left flags a 0 found.below found.holds
    go true e none f =
        let any = Any-from_list_any left flags e in
        let here : get_or flags any.0 0 ≡ any.1 = get_or_default flags any.0 0 any.1 any.2 ∙ any.3 in
        absurd (true≢false (sym any.4 ∙ ap left (sym here) ∙ lowest-none (length flags) at f any.0 any.2))
    go false e none f = e
