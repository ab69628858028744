-- Document 01, "Modules", order of work. What a net replacement is, by the words of the slot table.
use Rattle.std.specs.Prelude.{◌≡◌, cond, ◌&&◌, List, ℕ, zero, suc, ◌<◌, ◌^◌, eqb}
use Rattle.logic.specs.Net.{net_of, driver_of}
use Rattle.logic.specs.declared.Driver.{Driver}
use Rattle.logic.specs.declared.Driver.TheVariants.{Constant, Output, NoNet}
use Rattle.cell.specs.Design.{Design, total}
use Rattle.right.specs.Nets.{Within}
use Rattle.working_out.specs.Reading.{equal, of_void, of_dffs, ordinary, pair_of}
use Rattle.working_out.specs.Reading as m
use Rattle.slots.specs.Tells.{standing_in, Tells}
use Rattle.slots.specs.declared.Standing.{Standing}
use Rattle.slots.specs.declared.Standing.TheVariants.{Void, Dff, Other}
use Rattle.slots.specs.declared.Pair.{Pair}
use Rattle.slots.specs.declared.Pair.TheVariants.{Equal, OfVoid, OfDffs, Ordinary}

-- The model's kinds of net replacements under the code's names.
abbrev pub pair_kind : Pair → m.Pair
pair_kind Equal = equal
pair_kind OfVoid = of_void
pair_kind OfDffs = of_dffs
pair_kind Ordinary = ordinary

-- What stands where a net is driven; a constant is no cell's, and counts as another's.
abbrev pub standing_at : List ℕ → Driver → ℕ
standing_at table (Constant t) = 2
standing_at table (Output i) = standing_in table i.0
standing_at table NoNet = 2

-- The same number under the code's names.
abbrev pub standing_by : ℕ → Standing
standing_by zero = Void
standing_by (suc zero) = Dff
standing_by (suc (suc n)) = Other

-- Document 01, "Reading nets": a replacement of equal nets counts as none; a Void's; a Dff's by a Dff's; any other.
abbrev pub pair_in : List ℕ → ℕ → ℕ → m.Pair
pair_in table from to =
    cond (eqb from to) equal
    (cond (eqb (standing_at table (driver_of from)) 0) of_void
    (cond (eqb (standing_at table (driver_of from)) 1 && eqb (standing_at table (driver_of to)) 1) of_dffs ordinary))

-- What is promised of a kind: it is the one by the words, and where the table tells of a design, the design's.
pub record IsKind (table : List ℕ) (from to : ℕ) (kind : Pair) : Type 0 where
  pub same : pair_kind kind ≡ pair_in table from to
  pub told :
      (d : Design) → Tells d table → from < 2 ^ 29 → to < 2 ^ 29 → Within (total d) (net_of from) →
      Within (total d) (net_of to) →
      pair_kind kind ≡ pair_of d (record { from = net_of from; to = net_of to })
