-- Document 01, "Examples": the answer reader. What follows sat, as the code goes through it: marks one by one, then the
-- list's parts and the end of the text.
use Rattle.std.specs.Prelude.{◌≡◌, Bool, List, ℕ, Result, Ok, Err}
use Rattle.logic.specs.declared.Fault.{Fault}
use Rattle.engine.specs.Call.{Name}
use Rattle.tokens.specs.Token.{Token}
use Rattle.reply.specs.Reply as read
use Rattle.reply.specs.Reply.{Reader, got, refused, return}
use Rattle.reply.specs.Reply.{on_got, pairs, expect, ended}
use Rattle.answer.specs.Reply.{table}
use Rattle.tokens.specs.Place.{tokens_from}
use Rattle.answer.specs.Entries.{entries}

-- What the code says of a reading of bits: the fault, or the place from which the entries of their table are read.
abbrev pub Tabled : List ℕ → List ℕ → read.Result (List Bool) → Result ℕ Fault → Type 0
Tabled text marks result (Err e) = result ≡ refused e
Tabled text marks result (Ok first) =
    (bits : List Bool) × (left rest : List Token)
    × (result ≡ got bits left)
    × (entries 0 marks (tokens_from text first) ≡ got (table marks bits) rest)

abbrev pub listed : List Name → Reader (List Bool)
listed names tokens =
    on_got (on_got (pairs names tokens) (λ bits u. on_got (expect ")" u) (λ _. return bits)))
    (λ bits v. on_got (ended v) (λ _. return bits))
