-- Document 01, "Examples": the script of a call list, line by line, as its example has it.
use Rattle.std.specs.Prelude.{List, [], ◌∷◌, ◌++◌, ℕ}
use Rattle.engine.specs.Call.{Name, Call}
use Rattle.engine.specs.Sorts.{start, leaves}
use Rattle.text.specs.Bytes.{ascii}
use Rattle.lines.specs.Line.{line}
use Rattle.asked.specs.Ending.{ending}

-- The lines of calls after others.
unfoldable pub lines : List Call → List Call → List ℕ
lines before [] = []
lines before (call ∷ calls) = line before call ++ lines (before ++ (call ∷ [])) calls

-- The two lines before the calls'.
abbrev pub header : List ℕ
header = ascii "(set-option :produce-models true)\n(set-logic QF_BV)\n"

-- The script of a call list that asks for names.
unfoldable pub script : List Call → List Name → List ℕ
script calls names = header ++ lines [] calls ++ ending (leaves start calls).checked names
