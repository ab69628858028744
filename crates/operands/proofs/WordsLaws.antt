-- Laws of the definitions of Words.
use Prim.Native.Nat.{ℕ}
use Rattle.logic.specs.Net.{Net, net_of}
use Rattle.logic.specs.Word.{payload_of}

-- The net of a word.
abbrev pub net_of_word : ℕ → Net
net_of_word word = net_of (payload_of word)
