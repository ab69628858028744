-- What a pass over an accepted list leaves: the words of its calls in the call slice, its marks, and its counts.
use mathlib.Core.Path.{◌≡◌}
use mathlib.Core.List.{List}
use Prim.Native.Nat.{ℕ}
use Rattle.cell.specs.Design.{Design}
use Rattle.engine.specs.Encode.{encode}
use Rattle.engine.specs.Emit.{Wrote}
use Rattle.order.specs.Verify.{built, verify}
use Rattle.builder.specs.declared.Counts.{Counts}
use Rattle.requirement.specs.Verified.{counted}

pub record Passed (d : Design) (calls calls' marks' : List ℕ) (c : Counts) (eqs : List ℕ) : Type 0 where
  pub wrote : Wrote calls 0 (encode (verify d)) calls' c.words
  pub counts : c ≡ counted (verify d)
  pub marks : marks' ≡ (built d).st.marks
  pub asked : eqs ≡ (built d).res
