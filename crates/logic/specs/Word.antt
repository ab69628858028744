-- Document 01, "Words": a word has 32 bits, of which the top three are its kind and the rest its payload.
use Rattle.std.specs.Prelude.{ℕ, ◌+◌, ◌*◌, ◌/◌, ◌%◌, ◌^◌}

abbrev pub kind_of : ℕ → ℕ
kind_of word = word / 2 ^ 29

abbrev pub payload_of : ℕ → ℕ
payload_of word = word % 2 ^ 29

-- The word of a kind and a payload; a payload counts modulo 2 ^ 29.
abbrev pub word_of : ℕ → ℕ → ℕ
word_of kind payload = kind * 2 ^ 29 + payload % 2 ^ 29

-- Kind 0: net; 1: inverted net; 2: head; 3: number, written #n; 4: term reference.
abbrev pub net_word : ℕ → ℕ
net_word = word_of 0

-- A head's payload is the operation + 32 × the count of following words.
abbrev pub head_word : ℕ → ℕ → ℕ
head_word op count = word_of 2 (op + 32 * count)

abbrev pub number_word : ℕ → ℕ
number_word = word_of 3

abbrev pub term_word : ℕ → ℕ
term_word = word_of 4
