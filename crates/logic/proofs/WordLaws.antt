-- Laws of the definitions of Word.
use mathlib.Core.Path.{◌≡◌}
use Prim.Native.Nat.{ℕ, ◌^◌, ◌<◌}
use native.Mathlib.Omega.{arith}
use Rattle.logic.specs.Word.{kind_of, payload_of, word_of}

abbrev pub inverted_word : ℕ → ℕ
inverted_word = word_of 1

-- Taking a word apart undoes making it, and making undoes taking apart.
pub kind_of_word : (kind payload : ℕ) → kind_of (word_of kind payload) ≡ kind
kind_of_word kind payload = omega arith

pub payload_of_word : (kind payload : ℕ) → payload < 2 ^ 29 → payload_of (word_of kind payload) ≡ payload
payload_of_word kind payload low = omega arith

pub word_of_parts : (word : ℕ) → word_of (kind_of word) (payload_of word) ≡ word
word_of_parts word = omega arith
