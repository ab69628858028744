-- Document 02, change 13, its right side: "some choice of source trits, alike on joined flip-flops, breaks at least one
-- obligation by the cell rules. The rules are used without running the builder." Nothing here knows of calls.
use Rattle.std.specs.Prelude.{◌≡◌, Bool, true, false, not, ℕ, zero, suc}
use mathlib.Core.List.{List, [], ◌∷◌, map, Memᴰ}
use Rattle.cell.specs.Design.{Design}
use Rattle.cell.specs.Each.{Each}
use Rattle.rules.specs.CellRule.{Trits}
use Rattle.working_out.specs.Reading.{Alike}
use Rattle.working_out.specs.WorkingOut.{whole}
use Rattle.working_out.specs.Obligations.{Obligation, obligations, broken}

-- A choice of source trits, alike on joined flip-flops, and an obligation that is broken where all else is worked out
-- from it.
pub record BreakingChoice (d : Design) : Type 0 where
  pub given : Trits
  pub alike : Alike d given
  pub obligation : Obligation
  pub among : Memᴰ obligation (obligations d)
  pub breaks : broken d (whole d given) obligation ≡ true

-- Every choice of source trits, alike on joined flip-flops, keeps every obligation.
abbrev pub KeepsAll : Design → Type 0
KeepsAll d = (g : Trits) → Alike d g → Each (λ o. broken d (whole d g) o ≡ false) (obligations d)

-- Of each obligation, in order, whether given trits keep it.
abbrev pub kept : Design → Trits → List Bool
kept d g = map (λ o. not (broken d (whole d g) o)) (obligations d)

-- The first false one of a list stands at a place.
abbrev pub FirstFalse : List Bool → ℕ → Type 0
FirstFalse [] place = ⊥
FirstFalse (b ∷ l) zero = b ≡ false
FirstFalse (b ∷ l) (suc place) = (b ≡ true) × FirstFalse l place
