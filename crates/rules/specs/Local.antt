-- Document 01, "Cell rules, over trits". Turning Xs into 0 or 1 in what a cell reads: on the slots of a list now, on
-- every slot before.
use Rattle.std.specs.Prelude.{List, ℕ}
use mathlib.Core.List.{Memᴰ}
use Rattle.rules.specs.CellRule.{Trits}
use Rattle.rules.specs.Refine.{Refines}

-- Where the first is defined, the second shows the same trit: now on the slots of a list, before on every slot.
pub record RefinesOn (slots : List ℕ) (θ θ' : Trits) : Type 0 where
  pub now : (i : ℕ) → Memᴰ i slots → Refines (θ.now i) (θ'.now i)
  pub was : (i : ℕ) → Refines (θ.was i) (θ'.was i)
