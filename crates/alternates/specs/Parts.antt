-- Document 01, "Modules", builder. The alternates of a pattern, and the part into which the code cuts product.
use Rattle.std.specs.Prelude.{Bool, List, ℕ, ◌+◌, ◌*◌}
use Rattle.logic.specs.Net.{Net}
use Rattle.logic.specs.Table.{tab}
use Rattle.logic.specs.declared.Trit.{Trit}
use Rattle.logic.specs.declared.Trit.TheVariants.{Zero, One, Undef}
use Rattle.cell_reader.specs.Parse.{number_in, trits_in}
use Rattle.smt.specs.Prog.{Prog, ret, TritVec}
use Rattle.smt.specs.Builder.{compared}

-- The alternates of the pattern at a place.
abbrev pub alternates_in : List ℕ → ℕ → ℕ → List (List Trit)
alternates_in w n at = tab (number_in w at) (λ i. trits_in w n (at + 1 + i * n))

-- A turn of product's loop: one position of an alternate, X compared with nothing.
unfoldable pub position : (ℕ → Bool) → Net → Trit → TritVec → Prog TritVec
position reads_past v Undef prd = ret prd
position reads_past v Zero prd = compared reads_past v Zero prd
position reads_past v One prd = compared reads_past v One prd
