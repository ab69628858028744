-- Laws of the definitions of Sorts.
use mathlib.Core.Path.{◌≡◌}
use lib.ListN.{length}
use Rattle.engine.specs.Meaning.{Value, bool, bits}
use Rattle.engine.specs.Sorts.{Sort, IsBool, IsVector}

-- A value is of a sort.
abbrev pub OfSort : Sort → Value → Type 0
OfSort s (bool b) = IsBool s
OfSort s (bits x) = IsVector s × (length x ≡ s)
