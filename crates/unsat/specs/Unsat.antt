-- Document 02, change 13: "for a design without a current loop and with at least one obligation, in either flip-flop
-- mode and with divisions: the script has a satisfying assignment exactly when some choice of source trits, alike on
-- joined flip-flops, breaks at least one obligation by the cell rules".
use Rattle.std.specs.Prelude.{◌≡◌, ◌↔◌, List, [], ◌++◌, map, ℕ, ◌<◌, length}
use Rattle.cell.specs.Design.{Design}
use Rattle.engine.specs.Call.{Call}
use Rattle.engine.specs.Encode.{decode}
use Rattle.engine.specs.Meaning.{as_bool, Assignment, Sat, run, value_at, terms}
use Rattle.design_list.specs.Read.{accepted}
use Rattle.working_out.specs.Reading.{Alike}
use Rattle.working_out.specs.WorkingOut.{worked_out}
use Rattle.working_out.specs.Loop.{Loop}
use Rattle.working_out.specs.Obligations.{obligations}
use Rattle.smt.specs.Prog.{curr}
use Rattle.requirement.specs.Requirement3.{Declared, trit_in, trits_in, query_calls}
use Rattle.requirement.specs.Verified.{read_in, call_words}
use Rattle.unsat.specs.Choice.{BreakingChoice, kept, FirstFalse}

-- A list that is accepted in a mode as a design without a current loop and with at least one obligation.
pub record Questions (mode : ℕ) (w : List ℕ) (d : Design) : Type 0 where
  pub replacements : ℕ
  pub pairs : ℕ
  pub is : read_in mode w ≡ accepted d replacements pairs
  pub no_loop : Loop d → ⊥
  pub some : 0 < length (obligations d)

-- Calls have a satisfying assignment.
abbrev pub Satisfiable : List Call → Type 0
Satisfiable calls = (ρ : Assignment) × Sat ρ calls

-- What the calls of a design say: they have one exactly when some choice breaks an obligation.
abbrev pub Says : Design → List Call → Type 0
Says d calls = Satisfiable calls ↔ BreakingChoice d

-- The claim, of every list of words in every mode.
abbrev pub WhatUnsatSays : ℕ → List ℕ → Type 0
WhatUnsatSays mode w = (d : Design) → Questions mode w d → Says d (decode (call_words mode w))

-- What a satisfying assignment says: the trits of its sources are alike on joined flip-flops, every declared current
-- net shows what is worked out from them, and the first obligation that they break is that of the first false argument
-- of the query's and.
pub record Example (d : Design) (calls : List Call) (ρ : Assignment) : Type 0 where
  -- the calls end in the query, whose and has these arguments
  pub but : List Call
  pub asked : List ℕ
  pub query : calls ≡ but ++ query_calls (terms but) asked
  pub alike : Alike d (trits_in ρ)
  pub shown : (i : ℕ) → Declared calls curr i → trit_in ρ curr i ≡ worked_out d (trits_in ρ) i
  pub place : ℕ
  pub is_false : FirstFalse (map (λ k. as_bool (value_at (run ρ [] calls) k)) asked) place
  pub is_broken : FirstFalse (kept d (trits_in ρ)) place
