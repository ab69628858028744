-- Document 01, "Modules", order of work. What a pass over an accepted list leaves, from running counts: the walk's
-- work, then check.
use Rattle.std.specs.Prelude.{◌≡◌, List, ℕ, length, take}
use Rattle.cell.specs.declared.Mode.{Mode}
use Rattle.cell.specs.Design.{Design, total}
use Rattle.design_list.specs.Read.{read, accepted}
use Rattle.builder.specs.declared.Counts.{Counts}
use Rattle.slots.specs.Tells.{Tells}
use Rattle.net_steps.specs.Did.{Asks}
use Rattle.net_pairs.specs.declared.Walked.{Walked}
use Rattle.walk.specs.Works.{Works}

-- No term, no temporary and no word yet.
abbrev pub nothing : Counts
nothing = record { terms = 0; temporaries = 0; words = 0 }

-- Between the two the call slice holds the words of the steps; check asks the terms that stand first in the table.
pub record Passed (d : Design) (c : Counts) (calls names marks eqs calls' names' marks' eqs' : List ℕ) (c' : Counts)
    (obligations : ℕ) : Type 0 where
  pub between : List ℕ
  pub walked : Walked
  pub works : Works d calls names marks eqs c between names' marks' eqs' walked
  pub asks : Asks (take obligations eqs') between walked.counts calls' c'
  pub same : obligations ≡ walked.obligations
  pub long : length eqs' ≡ length eqs

abbrev pub Passes : Counts → Mode → List ℕ → ℕ → ℕ → List ℕ → List ℕ → List ℕ → List ℕ → List ℕ → List ℕ → List ℕ
    → List ℕ → List ℕ → Counts → ℕ → Type 0
Passes c mode list replacements pairs table calls names marks eqs calls' names' marks' eqs' c' obligations =
    (d : Design) → read mode list ≡ accepted d replacements pairs → Tells d table → length table ≡ total d
    → Passed d c calls names marks eqs calls' names' marks' eqs' c' obligations
