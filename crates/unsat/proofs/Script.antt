-- What unsat says, of what a caller holds: the words that `verify` leaves where it answers that something is asked, the
-- text that the writer leaves of them, and what the program writes.
use mathlib.Core.Path.{◌≡◌, refl, sym, ap, ◌∙◌, subst}
use mathlib.Core.Logic.{◌⊎◌, inl, inr}
use mathlib.Core.Bool.{Bool, true, false}
use mathlib.Core.List.{List, [], ◌∷◌, ◌++◌}
use Prim.Native.Nat.{ℕ, ◌<◌}
use native.Mathlib.Omega.{arith}
use lib.ListN.{length, take, drop}
use lib.Seq.{take_at}
use Rattle.logic.specs.declared.Fault.{Fault}
use Rattle.std.specs.Prelude.{Result, Ok, Err}
use Rattle.little_endian.specs.Words.{words_of, input_of}
use Rattle.cell.specs.Design.{Design}
use Rattle.cell.specs.declared.Mode.TheVariants.{Ported}
use Rattle.engine.specs.Encode.{decode}
use Rattle.builder.specs.declared.Counts.{Counts}
use Rattle.accepted.proofs.Laid.{accepted-laid}
use Rattle.working_out.specs.Loop.{Loop, has_loop}
use Rattle.working_out.proofs.Solutions.{loop_decided}
use Rattle.working_out.specs.Obligations.{Obligation, obligations}
use Rattle.requirement.specs.declared.Verified.{Verified}
use Rattle.requirement.specs.declared.Verified.TheVariants.{NothingAsked, Asked}
use Rattle.requirement.specs.Verified.{read_in, verified, call_words, marks}
use Rattle.design.specs.Said.{Said}
use Rattle.script.specs.Written.{script_of, written, Scripted}
use Rattle.program.specs.Output.{Texts, refusal_line, loop_text, script_or, of_verified, list_output, of_input, output_in}
use Rattle.program.specs.Output.{output}
use Rattle.program.proofs.Laws.{script-fits}
use Rattle.unsat.specs.Unsat.{Questions, Says}
use Rattle.unsat.specs.Script.{ScriptSays}
use Rattle.unsat.proofs.Unsat.{what_unsat-says}

-- ---- the words that `verify` leaves

-- Where something is asked and there is no current loop, the list puts questions.
module _ {mode : ℕ} {w calls recorded : List ℕ} {r : Result Verified Fault} {n : Counts} (s : Said mode w calls recorded r n)
    (asked : r ≡ Ok (Asked n)) (no_loop : Loop s.d → ⊥) where
  pub said_questions : Questions mode w s.d
  said_questions = record {
    replacements = s.replacements;
    pairs = s.pairs;
    is = s.is;
    no_loop = no_loop;
    some = some (obligations s.d) refl;
  }
    where
      two : ◌≡◌ {A = Result Verified Fault} (Ok (NothingAsked n)) (Ok (Asked n)) → ⊥
      two e = let z : ◌≡◌ {A = ℕ} 0 1 = cc in omega arith

      some : (l : List Obligation) → obligations s.d ≡ l → 0 < length (obligations s.d)
      some [] e = absurd (two (sym (s.nothing.1 e) ∙ asked))
      some (o ∷ l) e = rw e (omega arith)

  -- The calls in the caller's slice say it.
  pub said_says : Says s.d (decode (take n.words calls))
  said_says =
      subst (λ (l : List ℕ). Says s.d (decode l)) (sym s.words) (what_unsat-says mode w s.d said_questions)

-- ---- the text that the writer leaves

-- A text of so many bytes, which the writer wrote for the list's words and marks.
pub writer_says : (mode : ℕ) (w : List ℕ) {d : Design} (before after : List ℕ) {n : ℕ} → Questions mode w d
    → Scripted (call_words mode w) (marks mode w) before after (Ok n)
    (written (call_words mode w) (marks mode w) (length before))
    → ScriptSays mode w d (take n after)
writer_says mode w {d} before after {n} q done =
    let text = script_of (call_words mode w) (marks mode w) in
    let fits = script-fits (call_words mode w) (marks mode w) (length before) (sym done.answers) in
    record {
      has = ap (take n) done.writes ∙ take_at text (drop (length text) before) n (sym fits.0);
      says = what_unsat-says mode w d q;
    }

-- ---- what the program writes

-- Without a loop it names none.
unnamed : (w : List ℕ) {d : Design} → Questions 0 w d → loop_text (read_in 0 w) ≡ []
unfolding read_in
unnamed w {d} q =
    let laid = accepted-laid Ported w q.is in
    rw (q.is, none (has_loop d) refl (loop_decided d laid).0)
  where
    none : (b : Bool) → has_loop d ≡ b → (has_loop d ≡ true → Loop d) → has_loop d ≡ false
    none true e found = absurd (q.no_loop (found e))
    none false e found = e

-- In mode 0, its refusal of the input or of the room needed, or the script.
pub program_says : (bytes : List ℕ) {d : Design} → Questions 0 (words_of bytes) d →
    ((e : Fault) × (output bytes ≡ refusal_line e)) ⊎ ScriptSays 0 (words_of bytes) d (output bytes)
unfolding output_in list_output
program_says bytes {d} q = of_input_lem (input_of bytes)
  where
    w : List ℕ
    w = words_of bytes

    texts : Texts
    texts = record { line = loop_text (read_in 0 w); text = script_of (call_words 0 w) (marks 0 w) }

    Told : Texts → Type 0
    Told out = ((e : Fault) × (out.line ++ out.text ≡ refusal_line e)) ⊎ ScriptSays 0 w d (out.line ++ out.text)

    of_script : (a : Result ℕ Fault) → Told (script_or a texts)
    of_script (Ok n) = inr (record { has = rw (unnamed w q); says = what_unsat-says 0 w d q })
    of_script (Err e) = inl (e, refl)

    of_verified_lem : (a : Result Verified Fault) → Told (of_verified a (script_or (written (call_words 0 w) (marks 0 w) 65536) texts))
    of_verified_lem (Err e) = inl (e, refl)
    of_verified_lem (Ok a) = of_script (written (call_words 0 w) (marks 0 w) 65536)

    of_input_lem : (a : Result ℕ Fault) → Told (of_input a w 65536)
    of_input_lem (Err e) = inl (e, refl)
    of_input_lem (Ok n) = of_verified_lem (verified 0 w 16384 4096)
