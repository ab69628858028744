-- Document 01, "Examples": the answer reader. The entries of the table, slot by slot, as the tokens give them.
use Rattle.std.specs.Prelude.{Bool, true, false, List, [], ◌∷◌, ℕ, suc}
use Rattle.tokens.specs.Token.{Token}
use Rattle.reply.specs.Reply.{Result, Reader, got, refused, return, ◌>>=◌}
use Rattle.reply.specs.Step.{entry_of}

-- An entry, and those of the tokens after it.
abbrev pub on_entry : Result ℕ → (List Token → List ℕ) → List ℕ
on_entry (got number tokens) rest = number ∷ rest tokens
on_entry (refused e) rest = []

-- The entries of all slots, the first mark being the slot's.
unfoldable pub entries : ℕ → List ℕ → Reader (List ℕ)
entries slot [] = return []
entries slot (mark ∷ marks) = do
  number ← entry_of slot mark
  numbers ← entries (suc slot) marks
  return (number ∷ numbers)

-- The entries before the first fault.
unfoldable pub entries_written : ℕ → List ℕ → List Token → List ℕ
entries_written slot [] tokens = []
entries_written slot (mark ∷ marks) tokens = on_entry (entry_of slot mark tokens) (entries_written (suc slot) marks)

module _ {A : Type 0} where
  -- Where reading goes on, whatever was read.
  abbrev pub forget : Result A → Result (Unit {0})
  forget (got a tokens) = got tt tokens
  forget (refused e) = refused e

  abbrev pub nothing : List A → Bool
  nothing [] = true
  nothing (a ∷ l) = false
