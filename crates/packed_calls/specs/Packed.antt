-- Document 01, "Faults and what stays". The answers of checker, evaluator, writer and answer reader, packed into one
-- word of 64 bits: bits 63 to 48 the fault number (0: none), bits 47 to 0 its place or what the entry says.
use Rattle.std.specs.Prelude.{◌≡◌, cond, List, ℕ, ◌%◌, ◌^◌, ltb, length, set, Result, Ok, Err}
use Rattle.engine.specs.WellFormed.{outcome}
use Rattle.logic.specs.declared.Fault.{Fault}
use Rattle.checker.specs.declared.Counts.{Counts}
use Rattle.checker.specs.Checking.{checked_as}
use Rattle.eval.specs.Evaluated as evaluated
use Rattle.script.specs.Written.{written, text_after, script_of}
use Rattle.answer.specs.declared.Answer.{Answer}
use Rattle.answer.specs.declared.Answer.TheVariants.{Unsat, Sat}
use Rattle.answer.specs.Reply.{answer_of, reply_to, table_after}
use Rattle.packing.specs.Packed.{packed_as, packed_fault}

-- The checker's answer, with the room lent for the numbers of terms and of declared names: 19 at its place, then 14 at
-- 2; below 0 the terms.
abbrev pub packed_checked : Result Counts ℕ → ℕ → ℕ
packed_checked (Ok made) room = cond (ltb room 2) (packed_as 14 2) (made.terms % 2 ^ 48)
packed_checked (Err place) room = packed_as 19 place

abbrev pub sizes_after : Result Counts ℕ → List ℕ → List ℕ
sizes_after (Ok made) sizes = cond (ltb (length sizes) 2) sizes (set (set sizes 0 made.terms) 1 made.declared)
sizes_after (Err place) sizes = sizes

pub record PackedCheck (checked : Result Counts ℕ) (before after : List ℕ) (r : ℕ) : Type 0 where
  pub answers : r ≡ packed_checked checked (length before)
  pub writes : after ≡ sizes_after checked before

abbrev pub checked_of : List ℕ → Result Counts ℕ
checked_of calls = checked_as (outcome calls)

-- The evaluator's answer: below the fault number the number of false assertions.
abbrev pub packed_evaluation : Result ℕ Fault → ℕ
packed_evaluation (Ok n) = n % 2 ^ 48
packed_evaluation (Err e) = packed_fault e

pub record PackedEvaluation (calls bits before after : List ℕ) (r : ℕ) : Type 0 where
  pub answers : r ≡ packed_evaluation (evaluated.answer calls bits (length before))
  pub writes : after ≡ evaluated.values_after (evaluated.answer calls bits (length before)) calls bits before

-- The writer's answer: below the fault number the number of bytes.
abbrev pub packed_written : Result ℕ Fault → ℕ
packed_written (Ok n) = n % 2 ^ 48
packed_written (Err e) = packed_fault e

pub record PackedScript (calls marks before after : List ℕ) (r : ℕ) : Type 0 where
  pub answers : r ≡ packed_written (written calls marks (length before))
  pub writes : after ≡ text_after (written calls marks (length before)) (script_of calls marks) before

-- The reader's answer: 0 for unsat and 1 for sat.
abbrev pub packed_answer : Result Answer Fault → ℕ
packed_answer (Ok Unsat) = 0
packed_answer (Ok Sat) = 1
packed_answer (Err e) = packed_fault e

pub record PackedAnswer (text marks before after : List ℕ) (r : ℕ) : Type 0 where
  pub answers : r ≡ packed_answer (answer_of (reply_to text marks (length before)))
  pub writes : after ≡ table_after (reply_to text marks (length before)) marks before
