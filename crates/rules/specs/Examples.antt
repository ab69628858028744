-- Document 01, "Examples": the starred set, one list and one claim, computed by the cell rules; and examples of the
-- divisions of document 02, change 3.
use Rattle.std.specs.Prelude.{List, [], ◌∷◌, map, reverse}
use Rattle.logic.specs.Net.{Net, constant}
use Rattle.logic.specs.declared.Trit.{Trit}
use Rattle.logic.specs.declared.Trit.TheVariants.{Zero, One, Undef}
use Rattle.cell.specs.Cell.{Cell}
use Rattle.cell.specs.Cell as c

-- A cell of constant nets, and the trits that document 01 gives for it.
pub record Example : Type 0 where
  pub cell : Cell
  pub shows : List Trit

-- Trits are highest first, as in document 01; a vector stands low first.
abbrev trits : List Trit → List Trit
trits = reverse

abbrev nets : List Trit → List Net
nets ts = map constant (trits ts)

-- The trits 0, 1 and X, as document 01 writes them.
abbrev O : Trit
O = Zero

abbrev I : Trit
I = One

abbrev X : Trit
X = Undef

infix 5 ◌⟶◌
abbrev ◌⟶◌ : Cell → List Trit → Example
cell ⟶ ts = record { cell = cell; shows = trits ts }

abbrev pub examples : List Example
examples =
    (c.binary c.and (nets (O ∷ [])) (nets (X ∷ [])) ⟶ (O ∷ []))
    ∷ (c.binary c.or (nets (I ∷ [])) (nets (X ∷ [])) ⟶ (I ∷ []))
    ∷ (c.mux (constant X) (nets (I ∷ O ∷ [])) (nets (I ∷ I ∷ [])) ⟶ (I ∷ X ∷ []))
    ∷ (c.adc (nets (X ∷ I ∷ [])) (nets (O ∷ I ∷ [])) (constant O) ⟶ (X ∷ X ∷ O ∷ []))
    ∷ (c.binary c.eq (nets (I ∷ X ∷ [])) (nets (O ∷ X ∷ [])) ⟶ (O ∷ []))
    ∷ (c.binary c.eq (nets (I ∷ X ∷ [])) (nets (I ∷ X ∷ [])) ⟶ (X ∷ []))
    ∷ (c.binary c.slt (nets (I ∷ [])) (nets (O ∷ [])) ⟶ (I ∷ []))
    ∷ (c.shift c.shl (nets (O ∷ O ∷ O ∷ I ∷ [])) (nets (I ∷ O ∷ O ∷ [])) 4 ⟶ (O ∷ O ∷ O ∷ O ∷ []))
    ∷ (c.shift c.sshr (nets (X ∷ O ∷ [])) (nets (I ∷ [])) 1 ⟶ (X ∷ X ∷ []))
    ∷ (c.shift c.xshr (nets (I ∷ O ∷ [])) (nets (I ∷ [])) 1 ⟶ (X ∷ I ∷ []))
    ∷ (c.match [] (constant I) (([] ∷ []) ∷ []) ⟶ (I ∷ []))
    ∷ []

-- 7 by 2, unsigned; by zero; with an X. -7 by 2 and 7 by -2: truncated towards zero, the remainder with the sign of the
-- first. The least number by minus one.
abbrev pub divisions : List Example
divisions =
    (c.binary c.udiv (nets (O ∷ I ∷ I ∷ I ∷ [])) (nets (O ∷ O ∷ I ∷ O ∷ [])) ⟶ (O ∷ O ∷ I ∷ I ∷ []))
    ∷ (c.binary c.umod (nets (O ∷ I ∷ I ∷ I ∷ [])) (nets (O ∷ O ∷ I ∷ O ∷ [])) ⟶ (O ∷ O ∷ O ∷ I ∷ []))
    ∷ (c.binary c.udiv (nets (I ∷ O ∷ [])) (nets (O ∷ O ∷ [])) ⟶ (X ∷ X ∷ []))
    ∷ (c.binary c.umod (nets (I ∷ O ∷ [])) (nets (O ∷ O ∷ [])) ⟶ (X ∷ X ∷ []))
    ∷ (c.binary c.udiv (nets (O ∷ O ∷ [])) (nets (X ∷ I ∷ [])) ⟶ (X ∷ X ∷ []))
    ∷ (c.binary c.smod_trunc (nets (X ∷ O ∷ [])) (nets (O ∷ I ∷ [])) ⟶ (X ∷ X ∷ []))
    ∷ (c.binary c.sdiv_trunc (nets (I ∷ O ∷ O ∷ I ∷ [])) (nets (O ∷ O ∷ I ∷ O ∷ [])) ⟶ (I ∷ I ∷ O ∷ I ∷ []))
    ∷ (c.binary c.smod_trunc (nets (I ∷ O ∷ O ∷ I ∷ [])) (nets (O ∷ O ∷ I ∷ O ∷ [])) ⟶ (I ∷ I ∷ I ∷ I ∷ []))
    ∷ (c.binary c.sdiv_trunc (nets (O ∷ I ∷ I ∷ I ∷ [])) (nets (I ∷ I ∷ I ∷ O ∷ [])) ⟶ (I ∷ I ∷ O ∷ I ∷ []))
    ∷ (c.binary c.smod_trunc (nets (O ∷ I ∷ I ∷ I ∷ [])) (nets (I ∷ I ∷ I ∷ O ∷ [])) ⟶ (O ∷ O ∷ O ∷ I ∷ []))
    ∷ (c.binary c.sdiv_trunc (nets (I ∷ O ∷ [])) (nets (O ∷ O ∷ [])) ⟶ (X ∷ X ∷ []))
    ∷ (c.binary c.sdiv_trunc (nets (I ∷ O ∷ [])) (nets (I ∷ I ∷ [])) ⟶ (I ∷ O ∷ []))
    ∷ (c.binary c.smod_trunc (nets (I ∷ O ∷ [])) (nets (I ∷ I ∷ [])) ⟶ (O ∷ O ∷ []))
    ∷ []
