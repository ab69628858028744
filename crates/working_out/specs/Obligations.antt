-- Document 01, "Reading nets": the obligations, in the Rust's order, and when one is broken. Document 02, change 7:
-- "Obligations in the mission are those of the chosen mode".
use Rattle.std.specs.Prelude.{Bool, true, false, not, cond, ◌&&◌, List, [], ◌∷◌, ◌++◌, map, eqb}
use Rattle.logic.specs.declared.Trit.{Trit}
use Rattle.cell.specs.Cell.{output_len}
use Rattle.cell.specs.Design.{Design, Placed, NetPair}
use Rattle.cell.specs.declared.Mode.{Mode}
use Rattle.cell.specs.Mode.{ported_only}
use Rattle.rules.specs.Trits.{refines}
use Rattle.rules.specs.CellRule.{Trits, of_net, outputs, read}
use Rattle.working_out.specs.Reading.{reads_past, Pair, equal, of_void, of_dffs, ordinary, pair_of}
use Rattle.working_out.specs.WorkingOut.{trit_rule}

pub data Obligation : Type 0 where
  -- a cell replacement's: from its slots to what its new cell works out
  cell : Placed → Obligation
  -- a net replacement's, from current to current
  current : NetPair → Obligation
  -- a net replacement's ordinary one: to is taken as read
  as_read : NetPair → Obligation

-- Cells of output width 0 are skipped, and so are their replacements.
unfoldable pub cell_obligations : List Placed → List Obligation
cell_obligations [] = []
cell_obligations (p ∷ reps) = cond (eqb (output_len p.cell) 0) [] (cell p ∷ []) ++ cell_obligations reps

-- A Dff's net replaced by a Dff's obliges current to current, then, in the ported mode, makes the ordinary obligation
-- too.
abbrev pub of_dff_pair : Mode → NetPair → List Obligation
of_dff_pair mode p = current p ∷ ported_only mode (as_read p ∷ [])

-- Equal nets count as none; a Void's net replacement is asserted, and makes none.
abbrev pub of_pair : Mode → Pair → NetPair → List Obligation
of_pair mode equal p = []
of_pair mode of_void p = []
of_pair mode of_dffs p = of_dff_pair mode p
of_pair mode ordinary p = as_read p ∷ []

unfoldable pub net_obligations : Design → List NetPair → List Obligation
net_obligations d [] = []
net_obligations d (p ∷ pairs) = of_pair d.mode (pair_of d p) p ++ net_obligations d pairs

abbrev pub obligations : Design → List Obligation
obligations d = cell_obligations d.cell_reps ++ net_obligations d d.net_reps

-- From is taken current, a base Dff's too; a new cell goes by its rule, with the replaced slots as its output.
abbrev pub from_of : Trits → Obligation → List Trit
from_of θ (cell p) = map θ.now (outputs p.slot (output_len p.cell))
from_of θ (current p) = of_net θ.now p.from ∷ []
from_of θ (as_read p) = of_net θ.now p.from ∷ []

abbrev pub to_of : Design → Trits → Obligation → List Trit
to_of d θ (cell p) = trit_rule d θ.was p.slot p.cell θ.now
to_of d θ (current p) = of_net θ.now p.to ∷ []
to_of d θ (as_read p) = read (reads_past d) θ p.to ∷ []

-- From refines to: wherever from is defined, to is the same trit.
unfoldable pub all_refine : List Trit → List Trit → Bool
all_refine [] [] = true
all_refine [] (y ∷ b) = false
all_refine (x ∷ a) [] = false
all_refine (x ∷ a) (y ∷ b) = refines x y && all_refine a b

-- An obligation is broken unless its from refines its to.
abbrev pub broken : Design → Trits → Obligation → Bool
broken d θ o = not (all_refine (from_of θ o) (to_of d θ o))
