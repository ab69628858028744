-- Document 01, "Modules", order of work. What a part of the walk leaves, against what the model's steps (order, Verify)
-- emit: `Did` of the steps, and the terms of their obligations in a lent table, one after another.
use Rattle.std.specs.Prelude.{◌≡◌, List, [], ◌∷◌, ℕ, ◌+◌, ◌≤◌, ◌<◌, length, set}
use Rattle.std.proofs.lemmas.List.Edits.{sets}
use Rattle.builder.specs.declared.Built.{Built}
use Rattle.order.specs.Verify.{Step, declared, asserted, obliged}
use Rattle.net_steps.specs.Did.{Did}
use Rattle.net_pairs.specs.declared.Walked.{Walked}

-- How many of some steps are obligations.
unfoldable pub obliged_in : List Step → ℕ
obliged_in [] = 0
obliged_in (declared m ∷ rest) = obliged_in rest
obliged_in (asserted m ∷ rest) = obliged_in rest
obliged_in (obliged m ∷ rest) = 1 + obliged_in rest

-- Terms stored in a table from a count on, and the count after them.
pub record Kept (eqs : List ℕ) (n : ℕ) (terms eqs' : List ℕ) (n' : ℕ) : Type 0 where
  pub words : eqs' ≡ sets eqs n terms
  pub many : n' ≡ n + length terms

-- A term stored in a table after so many others, the counts being those after it; past the table's end nothing is
-- stored.
pub record Pushed (eqs : List ℕ) (n : ℕ) (made : Built) (eqs' : List ℕ) (s' : Walked) : Type 0 where
  pub words : eqs' ≡ set eqs n made.term.0
  pub counts : s'.counts ≡ made.counts
  pub many : n < length eqs → s'.obligations ≡ n + 1

-- That the table has room for the obligations is a premise, met once, for the whole list.
pub record Does (steps : List Step) (calls names marks eqs : List ℕ) (s : Walked) (calls' names' marks' eqs' : List ℕ)
    (s' : Walked) : Type 0 where
  pub terms : List ℕ
  pub many : length terms ≡ obliged_in steps
  pub did : Did steps calls names marks s.counts calls' names' marks' s'.counts terms
  pub kept : s.obligations + obliged_in steps ≤ length eqs → Kept eqs s.obligations terms eqs' s'.obligations
