-- Laws of the definitions of Examples.
use mathlib.Core.Path.{◌≡◌, refl}
use mathlib.Core.Bool.{Bool}
use mathlib.Core.List.{List, map}
use Prim.Native.Nat.{ℕ}
use Rattle.logic.specs.Table.{tab}
use Rattle.rules.specs.Trits.{any_x, number}
use Rattle.rules.specs.Rules.{any_mismatch, alternate, matches, first_hot}
use Rattle.rules.specs.CellRule.{Trits, cell_rule}
use Rattle.rules.specs.Examples.{Example, examples, divisions}

-- Each cell's rule gives the trits of its example, whatever the trits of the slots: it reads none.
module _ (reads_past : ℕ → Bool) (θ : Trits) (out : List ℕ) where
  abbrev Right : List Example → Type 0
  Right es = map (λ (e : Example). cell_rule reads_past θ out e.cell) es ≡ map (λ (e : Example). e.shows) es

  pub starred : Right examples
  unfolding tab any_x number any_mismatch alternate matches first_hot
  starred = refl

  pub divided : Right divisions
  unfolding tab any_x number
  divided = refl
