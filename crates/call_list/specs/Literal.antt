-- Document 01, "Words": a call record. The number of a literal from its 16-bit numbers.
use Rattle.std.specs.Prelude.{cond, List, ℕ, suc, ◌+◌, ◌-◌, ◌*◌, ◌%◌, ◌^◌, ◌<◌, ◌≤◌, ltb}
use Rattle.logic.specs.Table.{tab}
use Rattle.logic.specs.Word.{payload_of}
use Rattle.engine.specs.Encode.{count_at, bare, argument_at, from_digits}

-- The payloads of the arguments of the record at a place.
abbrev pub payloads : List ℕ → ℕ → ℕ → ℕ
payloads w at i = payload_of (argument_at bare w at i)

-- A literal's record has at most four 16-bit numbers after its width.
pub record LiteralFits (w : List ℕ) (head : ℕ) : Type 0 where
  pub few : count_at w head ≤ 5
  pub low : (j : ℕ) → suc j < count_at w head → payloads w head (suc j) < 2 ^ 16

-- Number j, or 0 past the last.
abbrev pub digit_or : (ℕ → ℕ) → ℕ → ℕ → ℕ
digit_or a n j = cond (ltb (j + 1) n) (a (j + 1) % 2 ^ 16) 0

-- Four numbers make a literal's.
abbrev pub joined : ℕ → ℕ → ℕ → ℕ → ℕ
joined a b c d = a + 65536 * b + 4294967296 * c + 281474976710656 * d

-- The number of a record's first four digits.
abbrev pub four_digits : List ℕ → ℕ → ℕ
four_digits w head =
    let digit = digit_or (payloads w head) (count_at w head) in joined (digit 0) (digit 1) (digit 2) (digit 3)

-- The number that a literal's record has.
abbrev pub literal_number : List ℕ → ℕ → ℕ
literal_number w head = from_digits (tab (count_at w head - 1) (λ i. payloads w head (suc i)))
