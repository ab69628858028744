-- Document 01, "Faults and what stays". The order of work's answers packed: below the fault number its place, or the
-- number of call words with bit 47 set where something is asked.
use Rattle.std.specs.Prelude.{◌≡◌, cond, List, [], ◌∷◌, ◌++◌, ℕ, ◌+◌, ◌*◌, ◌^◌, ltb, length, drop, Result, Ok, Err}
use Rattle.logic.specs.declared.Fault.{Fault}
use Rattle.builder.specs.declared.Counts.{Counts}
use Rattle.requirement.specs.declared.Verified.{Verified}
use Rattle.requirement.specs.declared.Verified.TheVariants.{NothingAsked, Asked}
use Rattle.requirement.specs.Verified.{number_of, value_of}
use Rattle.packing.specs.Packed.{packed_as}

-- 1 where something is asked.
abbrev pub asked_of : Result Verified Fault → ℕ
asked_of (Err e) = 0
asked_of (Ok (NothingAsked n)) = 0
asked_of (Ok (Asked n)) = 1

abbrev pub packed_verified : Result Verified Fault → ℕ
packed_verified a = packed_as (number_of a) (asked_of a * 2 ^ 47 + value_of a)

-- The counts alone, into a slice that has room for three numbers; 14 at 3 where it has not.
abbrev pub roomed : ℕ → Result Verified Fault → Result Verified Fault
roomed room a = cond (ltb room 3) (Err (record { number = 14; place = 3 })) a

abbrev pub lent : Result Verified Fault → ℕ → Result Verified Fault
lent (Err e) room = Err e
lent (Ok a) room = roomed room (Ok a)

-- Terms, temporaries and words in front of what the slice held.
abbrev pub counts_written : Counts → List ℕ → List ℕ
counts_written n before = (n.terms ∷ n.temporaries ∷ n.words ∷ []) ++ drop 3 before

abbrev pub counts_after : Result Verified Fault → List ℕ → List ℕ
counts_after (Err e) before = before
counts_after (Ok (NothingAsked n)) before = counts_written n before
counts_after (Ok (Asked n)) before = counts_written n before

-- What a slice of counts gets of an answer, and the answer packed.
pub record Told (a : Result Verified Fault) (before after : List ℕ) (r : ℕ) : Type 0 where
  pub answers : r ≡ packed_verified (lent a (length before))
  pub writes : after ≡ counts_after (lent a (length before)) before
