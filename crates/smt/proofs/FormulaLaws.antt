-- Laws of the definitions of Formula.
use mathlib.Core.Bool.{Bool}
use mathlib.Core.List.{List, [], ◌∷◌}
use Rattle.logic.specs.Table.{zip_with}
use Rattle.logic.specs.Trit.{shows}
use Rattle.logic.specs.declared.Trit.{Trit}
use Rattle.smt.specs.Formula.{TritBits, tb}

-- One trit.
abbrev pub one : Bool → Bool → TritBits
one x y = tb (x ∷ []) (y ∷ [])

-- The trits that they show.
abbrev pub show : TritBits → List Trit
show a = zip_with shows a.x a.y
