-- Document 01, "Modules", order of work. What an answer of `verify` other than a refusal says of the two slices that
-- the caller holds: which words and marks they begin with, that these are a well-formed call list, whether anything is
-- asked, and requirement 3.
use Rattle.std.specs.Prelude.{◌≡◌, ◌↔◌, List, [], ℕ, ◌≤◌, length, take, Result, Ok, Err}
use Rattle.logic.specs.declared.Fault.{Fault}
use Rattle.std.proofs.Math.Option.{none}
use Rattle.cell.specs.Design.{Design, total}
use Rattle.engine.specs.Encode.{decode}
use Rattle.engine.specs.WellFormed.{malformed_at}
use Rattle.design_list.specs.Read.{accepted}
use Rattle.working_out.specs.Loop.{Loop}
use Rattle.working_out.specs.Obligations.{obligations}
use Rattle.builder.specs.declared.Counts.{Counts}
use Rattle.requirement.specs.declared.Verified.{Verified}
use Rattle.requirement.specs.declared.Verified.TheVariants.{NothingAsked, Asked}
use Rattle.requirement.specs.Verified as verified
use Rattle.requirement.specs.Requirement3.{Requirement3}

-- NothingAsked or Asked, with these counts.
abbrev pub Says : Result Verified Fault → Counts → Type 0
Says (Err e) n = ⊥
Says (Ok (NothingAsked m)) n = m ≡ n
Says (Ok (Asked m)) n = m ≡ n

pub record Said (mode : ℕ) (w calls recorded : List ℕ) (r : Result Verified Fault) (n : Counts) : Type 0 where
  pub d : Design
  pub replacements : ℕ
  pub pairs : ℕ
  pub is : verified.read_in mode w ≡ accepted d replacements pairs
  -- The slices begin with as many call words as the answer counts, and with a mark for each slot.
  pub room : n.words ≤ length calls
  pub words : take n.words calls ≡ verified.call_words mode w
  pub slots : total d ≤ length recorded
  pub marks : take (total d) recorded ≡ verified.marks mode w
  -- Never 19, for evaluator and writer.
  pub formed : malformed_at (take n.words calls) ≡ none
  -- Nothing is asked exactly where there is no obligation.
  pub nothing : (r ≡ Ok (NothingAsked n)) ↔ (obligations d ≡ [])
  pub required : (Loop d → ⊥) → Requirement3 d (decode (take n.words calls))
