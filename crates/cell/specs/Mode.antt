-- Document 02, change 7: "a mode chosen by the caller, 0 the ported one .. and 1: for a Dff's net replaced by a Dff's,
-- only the joined pasts and the current-to-current obligation".
use Rattle.std.specs.Prelude.{ℕ, List, [], ◌∷◌, map, get_or, Option, Some, None}
use Rattle.cell.specs.declared.Mode.{Mode}
use Rattle.cell.specs.declared.Mode.TheVariants.{Ported, Inductive}

-- The modes by their numbers, from 0.
abbrev pub modes : List Mode
modes = Ported ∷ Inductive ∷ []

abbrev pub mode_of : ℕ → Option Mode
mode_of number = get_or (map Some modes) number None

abbrev pub number_of : Mode → ℕ
number_of Ported = 0
number_of Inductive = 1

-- What only the ported mode has.
abbrev pub ported_only : {A : Type 0} → Mode → List A → List A
ported_only Ported more = more
ported_only Inductive more = []
