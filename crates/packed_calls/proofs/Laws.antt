-- A packed answer from the contracts of the function that gives it: once for the entry and for its twin with lent
-- tables.
use mathlib.Core.Path.{◌≡◌, refl, ap, ◌∙◌}
use mathlib.Core.List.{List}
use Prim.Native.Nat.{ℕ, ◌<◌, ◌≤◌}
use lib.ListN.{length, set}
use borrow.Author.Tests.{lt-ltb, le-ltb}
use Rattle.std.specs.Prelude.{Result, Ok, Err}
use Rattle.logic.specs.declared.Fault.{Fault}
use Rattle.checker.specs.declared.Counts.{Counts}
use Rattle.eval.specs.Evaluated as evaluated
use Rattle.script.specs.Written.{written, Scripted}
use Rattle.packed_calls.specs.Packed.{packed_checked, PackedCheck, packed_evaluation, PackedEvaluation}
use Rattle.packed_calls.specs.Packed.{packed_written, PackedScript}

pub malformed-packed : {checked : Result Counts ℕ} {place : ℕ} (sizes : List ℕ) {r : ℕ} → checked ≡ Err place
    → r ≡ packed_checked (Err place) (length sizes) → PackedCheck checked sizes sizes r
malformed-packed sizes is packed = rw is (record { answers = packed; writes = refl })

pub short-packed : {checked : Result Counts ℕ} {made : Counts} (sizes : List ℕ) {r : ℕ} → checked
    ≡ Ok made → length sizes < 2
    → r ≡ packed_checked (Ok made) 0 → PackedCheck checked sizes sizes r
short-packed sizes is short packed =
    rw is (record { answers = rw (lt-ltb (length sizes) 2 short) packed; writes = rw (lt-ltb (length sizes) 2 short) })

pub sizes_packed : {checked : Result Counts ℕ} {made : Counts} (sizes after : List ℕ) {r : ℕ} → checked
    ≡ Ok made
    → 2 ≤ length sizes → r ≡ packed_checked (Ok made) 2 → after ≡ set (set sizes 0 made.terms) 1 made.declared
    → PackedCheck checked sizes after r
sizes_packed sizes after is room packed stored =
    rw is (record
    { answers = rw (le-ltb (length sizes) 2 room) packed; writes = rw (le-ltb (length sizes) 2 room) stored })

pub check-packed : {checked expected : Result Counts ℕ} {before after : List ℕ} {r : ℕ} → checked ≡ expected →
    PackedCheck checked before after r
    → PackedCheck expected before after r
check-packed same packed = rw same at packed

pub evaluation_packed : (calls bits before after : List ℕ) {answer : Result ℕ Fault} {r : ℕ} → r ≡ packed_evaluation answer
    → answer ≡ evaluated.answer calls bits (length before) → after ≡ evaluated.values_after answer calls bits before
    → PackedEvaluation calls bits before after r
evaluation_packed calls bits before after packed same stored = record {
  answers = packed ∙ ap packed_evaluation same;
  writes = stored ∙ ap (λ (a : Result ℕ Fault). evaluated.values_after a calls bits before) same;
}

pub script-packed : (calls marks before after : List ℕ) {answer : Result ℕ Fault} {r : ℕ} → r ≡ packed_written answer
    → Scripted calls marks before after answer (written calls marks (length before)) →
    PackedScript calls marks before after r
script-packed calls marks before after packed done = record {
  answers = packed ∙ ap packed_written done.answers;
  writes = rw done.answers at done.writes;
}
