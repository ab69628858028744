-- Document 02, change 13, of the script: its lines are those of the list's calls, in order, between header and ending
-- (document 01, "Examples"), and what the calls say the script says.
use Rattle.std.specs.Prelude.{◌≡◌, List, ℕ}
use Rattle.cell.specs.Design.{Design}
use Rattle.engine.specs.Encode.{decode}
use Rattle.text.specs.Names.{asked_names}
use Rattle.script.specs.Text.{script}
use Rattle.requirement.specs.Verified.{call_words, marks}
use Rattle.unsat.specs.Unsat.{Says}

pub record ScriptSays (mode : ℕ) (w : List ℕ) (d : Design) (text : List ℕ) : Type 0 where
  pub has : text ≡ script (decode (call_words mode w)) (asked_names (marks mode w))
  pub says : Says d (decode (call_words mode w))
