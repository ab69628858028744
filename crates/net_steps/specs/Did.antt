-- Document 01, "Modules", order of work. What a function of the order of work leaves, against what the model's steps
-- (order, Verify) emit: `Ran` for a list of steps, with the terms of their obligations as the result.
use Rattle.std.specs.Prelude.{◌≡◌, List, [], ◌∷◌, ℕ, ◌+◌, ◌<◌, ◌^◌}
use Rattle.engine.specs.Call.{assert}
use Rattle.engine.specs.Encode.{encode, record_of}
use Rattle.engine.specs.Emit.{Wrote}
use Rattle.builder.specs.declared.Counts.{Counts}
use Rattle.builder.specs.declared.Built.{Built}
use Rattle.builder.specs.Ran.{state_of, Lent, Fits, Ends}
use Rattle.order.specs.Verify.{Step, work, asked_calls}

pub record Did (steps : List Step) (calls names marks : List ℕ) (c : Counts) (calls' names' marks' : List ℕ)
    (c' : Counts) (terms : List ℕ) : Type 0 where
  pub ends : Lent calls c.words → Fits (work steps (state_of c names marks)).st
      → Ends (work steps (state_of c names marks)) calls c.words calls' c'.words (state_of c' names' marks') terms

-- A Bool asserted: no term more.
pub record Asserts (claim : Built) (calls calls' : List ℕ) (c : Counts) : Type 0 where
  pub wrote : Wrote calls claim.counts.words (record_of (assert claim.term.0)) calls' c.words
  pub same : c ≡ record { terms = claim.counts.terms; temporaries = claim.counts.temporaries; words = c.words }

-- `check`: the query, its assertion and the check are written, and there are two terms more; with no obligation
-- nothing.
abbrev pub query_terms : List ℕ → ℕ
query_terms [] = 0
query_terms (o ∷ more) = 2

pub record Asked (eqs calls names marks : List ℕ) (c : Counts) (calls' : List ℕ) (c' : Counts) : Type 0 where
  pub wrote : Wrote calls c.words (encode (asked_calls eqs (state_of c names marks))) calls' c'.words
  pub terms : c'.terms ≡ c.terms + query_terms eqs
  pub temporaries : c'.temporaries ≡ c.temporaries

-- That the terms after it fit is a premise, as in `Ran`.
abbrev pub Asks : List ℕ → List ℕ → Counts → List ℕ → Counts → Type 0
Asks eqs calls c calls' c' = (names marks : List ℕ) → Lent calls c.words → c.terms + 2 < 2 ^ 32 →
    c.temporaries < 2 ^ 32
    → Asked eqs calls names marks c calls' c'
