-- Document 01, "Examples": "The program reads little-endian words from standard input and writes the script, or
-- `refused N at P`. It lends 16,384 call words and 65,536 text bytes; a broken last word is fault 1 there, after 4 for
-- a 16,385th word." Document 02, change 4: "The program writes a loop as a line like `; loop s1 s4` before the script,
-- outside the lent text, and still writes the script; a refusal is written alone." What it writes, for every input.
use Rattle.std.specs.Prelude.{Result, Ok, Err, cond, List, [], ◌∷◌, ◌++◌, ℕ}
use Rattle.logic.specs.declared.Fault.{Fault}
use Rattle.little_endian.specs.Words.{words_of, input_of}
use Rattle.design_list.specs.Read.{Read, refused, accepted}
use Rattle.cell.specs.Design.{total}
use Rattle.engine.specs.Emit.{Wrote}
use Rattle.text.specs.Bytes.{ascii, decimal}
use Rattle.working_out.specs.Loop.{has_loop}
use Rattle.loops.specs.Graph.{named_loop}
use Rattle.loop_line.specs.Line.{loop_line}
use Rattle.script.specs.Written.{written, script_of}
use Rattle.requirement.specs.declared.Verified.{Verified}
use Rattle.requirement.specs.Verified.{read_in, verified, call_words, marks}
use Rattle.program.specs.declared.Lengths.{Lengths}

-- ---- the answer

-- The line that names a loop, empty where none is named, and the lent text.
pub record Texts : Type 0 where
  pub line : List ℕ
  pub text : List ℕ

-- `refused N at P` and a line feed.
abbrev pub refusal_line : Fault → List ℕ
refusal_line e = ascii "refused " ++ decimal e.number ++ ascii " at " ++ decimal e.place ++ (10 ∷ [])

-- A refusal is written alone.
abbrev pub refusal : Fault → Texts
refusal e = record { line = []; text = refusal_line e }

-- The line of the loop of an accepted list.
abbrev pub loop_text : Read → List ℕ
loop_text (refused e) = []
loop_text (accepted d replacements pairs) = cond (has_loop d) (loop_line (named_loop d)) []

abbrev pub script_or : Result ℕ Fault → Texts → Texts
script_or (Ok n) texts = texts
script_or (Err e) texts = refusal e

-- The script of call words and marks after a line, or the writer's refusal, by the room lent for the text.
abbrev pub script_texts : List ℕ → List ℕ → List ℕ → ℕ → Texts
script_texts line calls recorded room =
    script_or (written calls recorded room) (record { line = line; text = script_of calls recorded })

abbrev pub of_verified : Result Verified Fault → Texts → Texts
of_verified (Ok counts) texts = texts
of_verified (Err e) texts = refusal e

-- What is written for a list of words: in mode 0, "the ported one, which the program keeps" (document 02, change 7).
unfoldable pub list_output : List ℕ → ℕ → Texts
list_output w room =
    of_verified (verified 0 w 16384 4096) (script_texts (loop_text (read_in 0 w)) (call_words 0 w) (marks 0 w) room)

-- What is written for the bytes of the input: its own faults before anything else, then what its words say.
abbrev pub of_input : Result ℕ Fault → List ℕ → ℕ → Texts
of_input (Err e) words room = refusal e
of_input (Ok n) words room = list_output words room

unfoldable pub output_in : List ℕ → ℕ → Texts
output_in bytes room = of_input (input_of bytes) (words_of bytes) room

-- What the program writes.
abbrev pub output : List ℕ → List ℕ
output bytes = (output_in bytes 65536).line ++ (output_in bytes 65536).text

-- The line and the text in two lent slices, each from its start on.
pub record Leaves (texts : Texts) (line text line' text' : List ℕ) (r : Lengths) : Type 0 where
  pub line_wrote : Wrote line 0 texts.line line' r.line
  pub text-wrote : Wrote text 0 texts.text text' r.text

-- ---- what a list of words is lent

-- Its slots, one mark each.
abbrev pub slots_in : Read → ℕ
slots_in (refused e) = 0
slots_in (accepted d replacements pairs) = total d
