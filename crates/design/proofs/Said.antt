-- What `verify` says of the slices that it leaves, requirement 3 among it: for every list, from its contract alone. An
-- answer other than a refusal means that the list is accepted and both slices have room; the rest is what `Answered`,
-- `Required` and `Marks` have of such a list. Assumes nothing.
use mathlib.Core.Path.{◌≡◌, refl, sym, ap, subst, ◌∙◌}
use mathlib.Core.List.{List, [], ◌∷◌}
use Prim.Native.Nat.{ℕ, ◌≤◌, ◌<◌}
use native.Mathlib.Omega.{arith}
use native.Mathlib.Decide.{dec_lt}
use lib.ListN.{length, take, drop, length-append, length-drop}
use lib.Seq.{take_at}
use Rattle.cell.specs.Design.{Design, total}
use Rattle.engine.specs.Encode.{decode}
use Rattle.engine.specs.WellFormed.{malformed_at, place_of}
use Rattle.builder.specs.declared.Counts.{Counts}
use Rattle.design_list.specs.Read.{Read, refused, accepted}
use Rattle.order.specs.Verify.{built, verify}
use Rattle.requirement.specs.declared.Verified.{Verified}
use Rattle.std.specs.Prelude.{Result, Ok}
use Rattle.logic.specs.declared.Fault.{Fault}
use Rattle.requirement.specs.declared.Verified.TheVariants.{NothingAsked}
use Rattle.requirement.specs.Verified.{counted, told, read_in, verified, over, call_words}
use Rattle.requirement.specs.Verified as v
use Rattle.requirement.proofs.AnsweredLaws.{refused_as_read, answered, short_of_words, short_of_marks, nothing-asked}
use Rattle.requirement.proofs.AnsweredLaws.{slices_after}
use Rattle.requirement.proofs.Required.{words_are, never_malformed, required}
use Rattle.requirement.proofs.MarksLaws.{list-marked}
use Rattle.requirement.specs.Requirement3.{Requirement3}
use Rattle.design.specs.Verifies.{Verifies}
use Rattle.design.specs.Said.{Says, Said}

told-says : (l : List ℕ) (m n : Counts) → Says (Ok (told l m)) n → m ≡ n
told-says [] m n said = said
told-says (o ∷ l) m n said = said

-- A slice that was written from its start begins with what was written, and is as long as before.
module _ (slice new old : List ℕ) (is : slice ≡ over new old) where
  front : (n : ℕ) → length new ≡ n → take n slice ≡ new
  front n many = ap (λ (l : List ℕ). take n l) is ∙ take_at new (drop (length new) old) n many

  kept-length : length new ≤ length old → length slice ≡ length old
  kept-length fits =
      let dropped = length-drop (length new) old in
      ap length is ∙ length-append new (drop (length new) old) ∙ omega arith

module _ {mode : ℕ} {w calls recorded calls' recorded' : List ℕ} {r : Result Verified Fault}
    (left : Verifies mode w calls recorded calls' recorded' r)
    (n : Counts) (said : Says r n) where
  says : {a : Result Verified Fault} → verified mode w (length calls) (length recorded) ≡ a → Says a n
  says is = subst (λ (a : Result Verified Fault). Says a n) (left.answer ∙ is) said

  module _ {d : Design} {reps pairs : ℕ} (is : read_in mode w ≡ accepted d reps pairs)
      (words : length (call_words mode w) ≤ length calls) (marks : total d ≤ length recorded) where
    full : Said mode w calls' recorded' r n
    full =
        let answer = answered mode w is (length calls) (length recorded) words marks in
        let same : counted (verify d) ≡ n = told-says (built d).res _ n (says answer) in
        let many : length (call_words mode w) ≡ n.words =
        ap length (words_are mode w is) ∙ ap (λ (c : Counts). c.words) same in
        let slots : length (v.marks mode w) ≡ total d = (list-marked mode w is).many in
        let after = slices_after mode w calls recorded is words marks in
        let called = left.called ∙ after.0 in
        let marked = left.marked ∙ after.1 in
        let begins : take n.words calls' ≡ call_words mode w =
        front calls' (call_words mode w) calls called n.words many in
        let kept = kept-length calls' (call_words mode w) calls called words in
        let kept-marks = kept-length recorded' (v.marks mode w) recorded marked (omega arith) in
        let none-asked = nothing-asked mode w is (length calls) (length recorded) words marks in
        record {
          d = d;
          replacements = reps;
          pairs = pairs;
          is = is;
          room = omega arith;
          words = begins;
          slots = omega arith;
          marks = front recorded' (v.marks mode w) recorded marked (total d) slots;
          formed = ap malformed_at begins ∙ ap place_of (never_malformed mode w is);
          nothing = (
            λ e. none-asked.0 (sym left.answer ∙ e ∙ ap (λ (c : Counts). Ok (NothingAsked c)) (sym same)),
            λ e. left.answer ∙ none-asked.1 e ∙ ap (λ (c : Counts). Ok (NothingAsked c)) same,
          );
          required =
              λ no_loop. subst (λ (l : List ℕ). Requirement3 d (decode l)) (sym begins)
              (required mode w d reps pairs is no_loop);
        }

  pub verify_said : Said mode w calls' recorded' r n
  verify_said = go (read_in mode w) refl
    where
      go : (q : Read) → read_in mode w ≡ q → Said mode w calls' recorded' r n
      go (refused e) is = absurd (says (refused_as_read mode w is (length calls) (length recorded)))
      go (accepted d reps pairs) is =
          fits (dec_lt (length calls) (length (call_words mode w))) (dec_lt (length recorded) (total d))
        where
          fits : Dec (length calls < length (call_words mode w)) → Dec (length recorded < total d) →
              Said mode w calls' recorded' r n
          fits (yes short) more = absurd (says (short_of_words mode w is (length calls) (length recorded) short))
          fits (no room) (yes short) =
              absurd (says (short_of_marks mode w is (length calls) (length recorded) (omega arith) short))
          fits (no room) (no more) = full is (omega arith) (omega arith)
