-- Laws of the definitions of Text.
use mathlib.Core.Path.{◌≡◌}
use mathlib.Core.List.{List, [], ◌∷◌, ◌++◌, append_assoc, append-nil}
use Rattle.engine.specs.Call.{Call}
use Rattle.lines.specs.Line.{line}
use Rattle.script.specs.Text.{lines}

-- One call more is one line more.
pub lines_more : (before calls : List Call) (call : Call) → lines before (calls ++ (call ∷ []))
    ≡ lines before calls ++ line (before ++ calls) call
unfolding lines
lines_more before [] call = rw (append-nil before) (append-nil (line before call))
lines_more before (first ∷ calls) call =
    rw (lines_more (before ++ (first ∷ [])) calls call, append_assoc before (first ∷ []) calls, append_assoc)
