-- Document 01, "Examples": "The program reads little-endian words from standard input"; "a broken last word is fault 1
-- there, after 4 for a 16,385th word".
use Rattle.std.specs.Prelude.{Result, Ok, Err, cond, List, [], ◌∷◌, ◌++◌, ℕ, zero, suc, ◌+◌, ◌*◌, ◌/◌, ◌%◌, ◌^◌, eqb, ltb, length, get_or}
use Rattle.std.proofs.lemmas.List.Edits.{sets}
use Rattle.logic.specs.declared.Fault.{Fault}

-- Word i: four bytes, the lowest first.
abbrev pub word_at : List ℕ → ℕ → ℕ
word_at bytes i =
    get_or bytes (4 * i) 0 + 2 ^ 8 * get_or bytes (4 * i + 1) 0 + 2 ^ 16 * get_or bytes (4 * i + 2) 0
    + 2 ^ 24 * get_or bytes (4 * i + 3) 0

unfoldable pub first_words : List ℕ → ℕ → List ℕ
first_words bytes zero = []
first_words bytes (suc n) = first_words bytes n ++ (word_at bytes n ∷ [])

-- The whole words of an input.
abbrev pub words_of : List ℕ → List ℕ
words_of bytes = first_words bytes (length bytes / 4)

-- How many they are; a byte after the 16,384th word is 4, then a broken last word 1.
unfoldable pub input_of : List ℕ → Result ℕ Fault
input_of bytes =
    cond (ltb 65536 (length bytes)) (Err (record { number = 4; place = 16384 }))
    (cond (eqb (length bytes % 4) 0) (Ok (length bytes / 4))
    (Err (record { number = 1; place = length bytes / 4 })))

-- What a slice of words holds after them; a refusal leaves it as it was.
abbrev pub stored : Result ℕ Fault → List ℕ → List ℕ → List ℕ
stored (Ok n) new words = sets words 0 new
stored (Err e) new words = words

abbrev pub words_after : List ℕ → List ℕ → List ℕ
words_after bytes words = stored (input_of bytes) (words_of bytes) words
