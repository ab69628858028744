-- Document 01, "Modules", order of work. What the walk leaves: the whole order of work of a design.
use Rattle.std.specs.Prelude.{◌≡◌, List, ℕ, ◌+◌, ◌*◌, ◌≤◌, length, take}
use Rattle.cell.specs.Design.{Design, total}
use Rattle.builder.specs.declared.Counts.{Counts}
use Rattle.order.specs.Verify.{steps}
use Rattle.net_steps.specs.Did.{Did}
use Rattle.net_pairs.specs.declared.Walked.{Walked}

-- The most obligations that a design can have: one for each slot and two for each net replacement.
abbrev pub most_obligations : Design → ℕ
most_obligations d = total d + 2 * length d.net_reps

-- With room for all obligations, their terms are the first words of the table.
pub record Works (d : Design) (calls names marks eqs : List ℕ) (c : Counts) (calls' names' marks' eqs' : List ℕ)
    (s' : Walked) : Type 0 where
  pub terms : List ℕ
  pub did : Did (steps d) calls names marks c calls' names' marks' s'.counts terms
  pub first : most_obligations d ≤ length eqs → take s'.obligations eqs' ≡ terms
  pub few : most_obligations d ≤ length eqs → s'.obligations ≤ most_obligations d
