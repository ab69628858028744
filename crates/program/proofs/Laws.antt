-- Laws of what the program writes: the slots of an accepted list, a script that fits, what is written for each answer
-- of `verify`, and what for each input.
use mathlib.Core.Path.{◌≡◌, refl, sym, ap, ◌∙◌}
use mathlib.Core.Bool.{Bool, true, false}
use mathlib.Core.List.{List}
use mathlib.Core.Option as found
use Prim.Native.Nat.{ℕ, ◌+◌, ◌<◌, ◌≤◌, ◌^◌}
use native.Mathlib.Omega.{arith}
use lib.Dec.{ltb}
use lib.ListN.{length, take}
use borrow.Author.Tests.{ltb-false}
use Rattle.logic.specs.declared.Fault.{Fault}
use Rattle.std.specs.Prelude.{Result, Ok, Err, Option, Some, None}
use Rattle.little_endian.specs.Words.{words_of, input_of}
use Rattle.design_list.specs.declared.Extent.{Extent}
use Rattle.design_list.specs.Read.{Read, refused, accepted, answer}
use Rattle.engine.specs.Emit.{Wrote}
use Rattle.text.proofs.Write.{overwrite-fits}
use Rattle.engine.specs.WellFormed.{malformed_at}
use Rattle.engine.specs.Encode.{decode}
use Rattle.asked.specs.Marks.{bad_mark}
use Rattle.script.specs.Written.{script_of, room_for, on_fine, on_formed, marked, written, Scripted}
use Rattle.builder.specs.declared.Counts.{Counts}
use Rattle.requirement.specs.declared.Verified.{Verified}
use Rattle.requirement.specs.declared.Verified.TheVariants as design
use Rattle.requirement.specs.Verified.{read_in, verified, call_words, marks}
use Rattle.design.specs.Verifies.{Verifies}
use Rattle.design.specs.Said.{Says}
use Rattle.design.proofs.Said.{verify_said}
use Rattle.program.specs.declared.Lengths.{Lengths}
use Rattle.program.specs.Output.{Texts, refusal, loop_text, script_texts, of_verified, list_output, of_input, output_in}
use Rattle.program.specs.Output.{slots_in, Leaves}

-- ---- the slots of an accepted list

pub slots-refused : (r : Read) {e : Fault} → answer r ≡ Err e → slots_in r ≡ 0
slots-refused (refused e) is = refl
slots-refused (accepted d replacements pairs) is = let z : ◌≡◌ {A = ℕ} 0 1 = cc in absurd (omega arith)

pub slots-accepted : (r : Read) {x : Extent} → answer r ≡ Ok x → slots_in r ≡ x.base + x.added
slots-accepted (refused e) is = let z : ◌≡◌ {A = ℕ} 0 1 = cc in absurd (omega arith)
slots-accepted (accepted d replacements pairs) {x} is =
    let base : d.base ≡ x.base = cc in
    let added : d.added ≡ x.added = cc in
    omega arith

-- ---- a script that fits

-- The writer counts the bytes of a script, and there is room for them.
pub script-fits : (w marks : List ℕ) (room : ℕ) {n : ℕ} → written w marks room ≡ Ok n
    → (n ≡ length (script_of w marks)) × (length (script_of w marks) ≤ room)
unfolding written marked
script-fits w marks room {n} is =
    go (malformed_at w) (bad_mark (decode w) 0 marks) (ltb room (length (script_of w marks))) refl is
  where
    go : (place : found.Option ℕ) (mark : Option ℕ) (short : Bool) → ltb room (length (script_of w marks)) ≡ short
        → on_formed place (on_fine mark (room_for (length (script_of w marks)) room)) ≡ Ok n
        → (n ≡ length (script_of w marks)) × (length (script_of w marks) ≤ room)
    go (found.some place) mark short e is = let z : ◌≡◌ {A = ℕ} 0 1 = cc in absurd (omega arith)
    go found.none (Some slot) short e is = let z : ◌≡◌ {A = ℕ} 0 1 = cc in absurd (omega arith)
    go found.none None true e is =
        let refuses = rw e at is in
        let z : ◌≡◌ {A = ℕ} 0 1 = cc in absurd (omega arith)
    go found.none None false e is =
        let fits : length (script_of w marks) ≤ room = ltb-false _ _ e in
        let bytes = rw e at is in
        let same : length (script_of w marks) ≡ n = cc in
        (sym same, fits)

-- What the writer wrote is the script, with the line before it.
pub wrote-script : {line calls recorded before after lined line' : List ℕ} {m n : ℕ} → length before < 2 ^ 64
    → Scripted calls recorded before after (Ok n) (written calls recorded (length before))
    → Wrote lined 0 line line' m
    → Leaves (script_texts line calls recorded (length before)) lined before line' after (record { line = m; text = n })
wrote-script {calls = calls} {recorded} {before} short done named =
    let fits = script-fits calls recorded (length before) (sym done.answers) in
    rw (← done.answers)
    (record {
      line_wrote = named;
      text-wrote = record {
        words = done.writes ∙ sym (overwrite-fits before (script_of calls recorded) fits.1);
        count = omega (arith, fits.0, fits.1);
      };
    })

-- After the writer's refusal the text is as it was, and takes the refusal's line.
pub wrote-refused : (line : List ℕ) {calls recorded before middle after lined line' : List ℕ} {e : Fault} {r : Lengths}
    → Scripted calls recorded before middle (Err e) (written calls recorded (length before))
    → Leaves (refusal e) lined middle line' after r
    → Leaves (script_texts line calls recorded (length before)) lined before line' after r
wrote-refused line done wrote = rw (← done.answers) (rw done.writes at wrote)

-- ---- what is written for each answer of `verify`

pub nothing-says : {r : Result Verified Fault} {n : Counts} → r ≡ Ok (design.NothingAsked n) → Says r n
nothing-says is = rw is refl

pub asked-says : {r : Result Verified Fault} {n : Counts} → r ≡ Ok (design.Asked n) → Says r n
asked-says is = rw is refl

told_text : (a : Result Verified Fault) (n : Counts) → Says a n → (texts : Texts) → of_verified a texts ≡ texts
told_text (Err e) n said texts = absurd said
told_text (Ok a) n said texts = refl

-- `verify` with the program's room.
module _ {w calls recorded calls' recorded' : List ℕ} {r : Result Verified Fault}
    (left : Verifies 0 w calls recorded calls' recorded' r)
    (words : length calls ≡ 16384) (marked : length recorded ≡ 4096) where
  answer-is : r ≡ verified 0 w 16384 4096
  answer-is = left.answer ∙ rw (words, marked)

  pub list-refused : {e : Fault} → r ≡ Err e → (room : ℕ) → list_output w room ≡ refusal e
  unfolding list_output
  list-refused is room =
      ap (λ (a : Result Verified Fault). of_verified a (script_texts (loop_text (read_in 0 w)) (call_words 0 w) (marks 0 w) room))
      (sym answer-is ∙ is)

  module _ (n : Counts) (said : Says r n) (slots : ℕ) (all : slots ≡ slots_in (read_in 0 w)) where
    -- The first words and marks are there.
    pub handed : (n.words ≤ length calls') × (slots ≤ length recorded')
    handed =
        let s = verify_said left n said in
        (s.room, rw (all, ap slots_in s.is) s.slots)

    -- They are the list's own.
    pub list-told : (room : ℕ) → list_output w room
        ≡ script_texts (loop_text (read_in 0 w)) (take n.words calls') (take slots recorded') room
    unfolding list_output
    list-told room =
        let s = verify_said left n said in
        let recorded-are : take slots recorded' ≡ marks 0 w = rw (all, ap slots_in s.is) s.marks in
        ap (λ (a : Result Verified Fault). of_verified a (script_texts (loop_text (read_in 0 w)) (call_words 0 w) (marks 0 w) room))
        (sym answer-is)
        ∙ told_text r n said _
        ∙ rw (s.words, recorded-are)

-- ---- the bytes of the input

module _ (bytes : List ℕ) (room : ℕ) where
  pub input-refused : {e : Fault} → Err e ≡ input_of bytes → output_in bytes room ≡ refusal e
  unfolding output_in
  input-refused is = ap (λ (a : Result ℕ Fault). of_input a (words_of bytes) room) (sym is)

  pub input-read : {n : ℕ} → Ok n ≡ input_of bytes → output_in bytes room ≡ list_output (words_of bytes) room
  unfolding output_in
  input-read is = ap (λ (a : Result ℕ Fault). of_input a (words_of bytes) room) (sym is)
