-- Laws of the definitions of Meaning.
use mathlib.Core.Path.{◌≡◌}
use mathlib.Core.List.{List}
use Prim.Native.Nat.{ℕ, ◌<◌}
use lib.ListN.{length}
use Rattle.engine.specs.Meaning.{Value, value_at}

-- A valuation and the values of the first terms are the same.
abbrev pub Agrees : (ℕ → Value) → List Value → Type 0
Agrees v l = (k : ℕ) → k < length l → v k ≡ value_at l k
