-- Document 01, "Reading nets": a trit or a vector refines each that has the same trits wherever it is defined, that is
-- each that comes of it by turning Xs into 0 or 1.
use Rattle.std.specs.Prelude.{List, [], ◌∷◌, T}
use Rattle.logic.specs.declared.Trit.{Trit}
use Rattle.rules.specs.Trits.{refines}

-- Where the first is defined, the second is the same trit.
abbrev pub Refines : Trit → Trit → Type 0
Refines a b = T (refines a b)

-- The same of two vectors of one width, trit by trit.
pub data Refine : List Trit → List Trit → Type 0 where
  empty : Refine [] []
  both : {x y : Trit} {a b : List Trit} → Refines x y → Refine a b → Refine (x ∷ a) (y ∷ b)
