-- Laws of the definitions of Each.
use mathlib.Core.List.{List, [], ◌∷◌, ◌++◌}
use Rattle.cell.specs.declared.Mode.{Mode}
use Rattle.cell.specs.declared.Mode.TheVariants.{Ported, Inductive}
use Rattle.cell.specs.Mode.{ported_only}
use Rattle.cell.specs.Each.{Each}

pub each_map : {A : Type 0} {P Q : A → Type 0} (l : List A) → ((x : A) → P x → Q x) → Each P l → Each Q l
each_map [] f h = tt
each_map (x ∷ l) f h = (f x h.0, each_map l f h.1)

pub each_append : {A : Type 0} (P : A → Type 0) (a b : List A) → Each P a → Each P b → Each P (a ++ b)
each_append P [] b h k = k
each_append P (x ∷ a) b h k = (h.0, each_append P a b h.1 k)

-- What holds of each that the ported mode has holds of each in any mode.
pub each_ported : {A : Type 0} (P : A → Type 0) (mode : Mode) (l : List A) → Each P l → Each P (ported_only mode l)
each_ported P Ported l each = each
each_ported P Inductive l each = tt
